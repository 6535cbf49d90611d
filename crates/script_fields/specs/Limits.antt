-- The limits of a script.
use Rattle.std.specs.Prelude.{ℕ}

-- how many bytes a text has at most: 64 MiB
abbrev pub longest_text : ℕ
longest_text = 67_108_864

abbrev pub most_gateways : ℕ
most_gateways = 16

abbrev pub most_blocks : ℕ
most_blocks = 4_096

-- how many tasks all phases have at most
abbrev pub most_tasks : ℕ
most_tasks = 65_536

-- how many operations a task makes at most before it stops
abbrev pub latest_stop : ℕ
latest_stop = 1_000_000

-- how many names a page has at most
abbrev pub most_names : ℕ
most_names = 10_000

-- how many bytes a sample of a series line has at most: a space, a sign, 19 digits of a time, a colon and 16 of a pattern
abbrev pub longest_sample : ℕ
longest_sample = 38
