mod Jsons
mod Counted
mod Places
mod Silent
mod Following
mod Answered
mod Heeding
