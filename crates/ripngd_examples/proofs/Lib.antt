mod RecentExample
mod AnyhowExample
