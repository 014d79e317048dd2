-- Lines of commands, by their bytes.
use Rattle.std.specs.Prelude.{ℕ, Bool, false, cond, not, List, [], ◌∷◌, Ok, Err, Result, nat_eq}
use Rattle.std.specs.List.{list_any}
use Rattle.commands.specs.declared.Fault.{Fault}
use Rattle.commands.specs.declared.Fault.TheVariants.{Missing, Extra}

-- a line that holds a command: it is neither empty nor a comment, which begins with `#` (35)
abbrev pub holds_command : List ℕ → Bool
holds_command [] = false
holds_command (b ∷ bs) = not (nat_eq b 35)

-- Whether a text is one word: it is not empty, and no space (32) is in it.
abbrev pub one_word : List ℕ → Result (Unit {0}) Fault
one_word [] = Err Missing
one_word (b ∷ bs) = cond (list_any (λ x. nat_eq x 32) (b ∷ bs)) (Err Extra) (Ok tt)
