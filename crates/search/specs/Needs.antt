-- What a search comes to in a tree and what it asks there, without limits or memory.
use Rattle.std.specs.Prelude.{Bool, true, cond, ◌&&◌, [], ◌∷◌, ◌++◌}
use Rattle.file_system.specs.Tree.{Tree, is_directory}
use Rattle.search.specs.declared.error.Refusal.TheVariants.{TrailFull}
use Rattle.search.specs.Search.{is_file, content_of, manifest_in, kind_asked, manifest_at, Limits, Trail, on_trail, room, Search, refuse, none_left, choose, if_directory, try, read_manifest, Outcome, refused, none, chosen, Result, result}

unfoldable pub comes_to : Tree → Search → Outcome
comes_to t (refuse e) = refused e
comes_to t none_left = none
comes_to t (choose p) = chosen p
comes_to t (if_directory p k) = comes_to t (k (is_directory (t p)))
comes_to t (try p s) = cond (is_file (t p)) (chosen p) (comes_to t s)
comes_to t (read_manifest d k) = comes_to t (k (content_of (t (manifest_in d))))

-- the questions in order, with repeats
unfoldable pub needs : Tree → Search → Trail
needs t (refuse e) = []
needs t none_left = []
needs t (choose p) = []
needs t (if_directory p k) = kind_asked p ∷ needs t (k (is_directory (t p)))
needs t (try p s) = kind_asked p ∷ cond (is_file (t p)) [] (needs t s)
needs t (read_manifest d k) = manifest_at (manifest_in d) ∷ needs t (k (content_of (t (manifest_in d))))

-- each question once, at its first place, those already on the trail left out
unfoldable pub firsts : Trail → Trail → Trail
firsts qs [] = []
firsts qs (q ∷ rest) = cond (on_trail qs q) (firsts qs rest) (q ∷ firsts (qs ++ q ∷ []) rest)

-- New questions find room behind a trail, one after the other; and their longest beginning that does.
unfoldable pub all_fit : Limits → Trail → Trail → Bool
all_fit l qs [] = true
all_fit l qs (q ∷ new) = room l qs q && all_fit l (qs ++ q ∷ []) new

unfoldable pub fitting : Limits → Trail → Trail → Trail
fitting l qs [] = []
fitting l qs (q ∷ new) = cond (room l qs q) (q ∷ fitting l (qs ++ q ∷ []) new) []

-- An outcome and the questions that it needs, within limits and behind a trail: refused where they do not all fit.
abbrev pub within_limits : Limits → Trail → Outcome → Trail → Result
within_limits l qs o new = result (cond (all_fit l qs new) o (refused TrailFull)) (qs ++ fitting l qs new)
