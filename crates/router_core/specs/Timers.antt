-- The timers of the protocol, in milliseconds (RFC 2080, 2.3 and 2.5.1).
use Rattle.std.specs.Prelude.{ℕ, ◌+◌, ◌/◌, ◌%◌}

-- route timeout (RFC 2080, 2.3)
abbrev pub timeout : ℕ
timeout = 180_000

-- half of the route timeout: after it an equal metric of another gateway is adopted (RFC 2080, 2.4.2)
abbrev pub half_timeout : ℕ
half_timeout = timeout / 2

-- garbage-collection time (RFC 2080, 2.3)
abbrev pub garbage_time : ℕ
garbage_time = 120_000

-- when the next regular update is due: 15 to 45 seconds after one, by a random word (RFC 2080, 2.3)
abbrev pub next_regular : ℕ → ℕ → ℕ
next_regular now word = now + 15_000 + word % 30_001

-- until when triggered updates are delayed: 1 to 5 seconds after one, by a random word (RFC 2080, 2.5.1)
abbrev pub next_hold : ℕ → ℕ → ℕ
next_hold now word = now + 1_000 + word % 4_001
