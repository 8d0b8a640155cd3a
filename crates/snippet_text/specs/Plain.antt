-- Printable ASCII.
use Rattle.std.specs.Prelude.{ℕ, ◌<◌, ◌≤◌}

-- a printable character of ASCII: from the space to the tilde
abbrev pub IsPlain : ℕ → Type 0
IsPlain c = (32 ≤ c) × (c < 127)
