-- How a result, with the bytes that are left in the buffer, tells what joining comes to.
use Rattle.std.specs.Prelude.{◌≡◌, ℕ, ◌≤◌, List, length, take, drop, Some, None, Option, Ok, Err, Result}
use Rattle.path.specs.Path.{Outcome, names, nothing, too_long}
use Rattle.path.specs.declared.joining.TooLong.{TooLong}

-- `Ok(Some(n))` says that the first n bytes are the path, `Ok(None)` that nothing is named.
abbrev pub Reports : Result (Option ℕ) TooLong → List ℕ → Outcome → Type 0
Reports (Ok (Some n)) bytes o = (n ≤ length bytes) × (o ≡ names (take n bytes))
Reports (Ok None) bytes o = o ≡ nothing
Reports (Err _) bytes o = o ≡ too_long

-- Of the path in the buffer, where there is one: a fact of the bytes that it has.
abbrev pub OfPath : Result (Option ℕ) TooLong → List ℕ → (List ℕ → Type 0) → Type 0
OfPath (Ok (Some n)) bytes P = P (take n bytes)
OfPath (Ok None) bytes P = Unit {0}
OfPath (Err _) bytes P = Unit {0}

-- The bytes from place k on are as before.
abbrev pub KeptFrom : ℕ → List ℕ → List ℕ → Type 0
KeptFrom k before after = drop k after ≡ drop k before
