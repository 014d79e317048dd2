-- What a pattern matches, as a function: the relation `Matches` computed.
use Rattle.std.specs.Prelude.{ℕ, ◌-◌, cond, List, [], ◌∷◌, length, take, drop, Some, None, Option, ◌==◌}
use Rattle.std.specs.Str.{bytes_eq}
use Rattle.patterns.specs.Pattern.{star}

-- What is left of a text before a suffix that it ends with.
unfoldable pub before_suffix : List ℕ → List ℕ → Option (List ℕ)
before_suffix suffix text =
    cond (bytes_eq (drop (length text - length suffix) text) suffix) (Some (take (length text - length suffix) text)) None

-- A pattern is passed byte by byte along the text, up to its first star; what is left of the text is then to end with what
-- stands behind the star. Without a star all of the text is to be passed, and the part is empty.
unfoldable pub match_of : List ℕ → List ℕ → Option (List ℕ)
match_of [] [] = Some []
match_of [] (x ∷ xs) = None
match_of (b ∷ bs) [] = cond (b == star) (before_suffix bs []) None
match_of (b ∷ bs) (x ∷ xs) = cond (b == star) (before_suffix bs (x ∷ xs)) (cond (b == x) (match_of bs xs) None)
