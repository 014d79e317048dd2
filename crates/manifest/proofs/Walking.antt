-- How far a walk through a text can go on.
use Rattle.std.proofs.Common.{ℕ, suc, ◌-◌, Some, None, Option}

-- how many places there are from one on, below a limit
abbrev pub ahead : ℕ → Option ℕ → ℕ
ahead limit None = 0
ahead limit (Some place) = suc (limit - place)
