-- The parts of a specifier: path, query and fragment.
use Rattle.std.specs.Prelude.{ℕ, Bool, true, false, cond, not, ◌&&◌, ◌||◌, List, [], ◌∷◌, length, drop, Some, None, Option, ◌==◌}

-- a text that begins with a byte
abbrev pub begins : ℕ → List ℕ → Bool
begins c [] = false
begins c (b ∷ bs) = b == c

abbrev pub is_empty : List ℕ → Bool
is_empty [] = true
is_empty (b ∷ bs) = false

-- a text that holds a byte
unfoldable pub holds : ℕ → List ℕ → Bool
holds c [] = false
holds c (b ∷ bs) = b == c || holds c bs

-- What comes before the fragment, given the byte before: a fragment starts at the first `#` (35) that is not after a
-- zero byte.
unfoldable pub up_to_fragment : ℕ → List ℕ → List ℕ
up_to_fragment before [] = []
up_to_fragment before (b ∷ bs) = cond (b == 35 && not (before == 0)) [] (b ∷ up_to_fragment b bs)

-- The first byte starts no fragment.
unfoldable pub unfragmented : List ℕ → List ℕ
unfragmented [] = []
unfragmented (b ∷ bs) = b ∷ up_to_fragment b bs

-- What comes before the first `?` (63).
unfoldable pub up_to_query : List ℕ → List ℕ
up_to_query [] = []
up_to_query (b ∷ bs) = cond (b == 63) [] (b ∷ up_to_query bs)

-- a part that is not empty
abbrev pub present : List ℕ → Option (List ℕ)
present [] = None
present (b ∷ bs) = Some (b ∷ bs)

-- the path part as it stands in the specifier
unfoldable pub raw_path : List ℕ → List ℕ
raw_path text = up_to_query (unfragmented text)

-- the query with its `?`, and the fragment with its `#`, where there are any
unfoldable pub query_of : List ℕ → Option (List ℕ)
query_of text = present (drop (length (raw_path text)) (unfragmented text))

unfoldable pub fragment_of : List ℕ → Option (List ℕ)
fragment_of text = present (drop (length (unfragmented text)) text)

-- a zero byte right before a `#` is dropped
unfoldable pub unescaped : List ℕ → List ℕ
unescaped [] = []
unescaped (b ∷ bs) = cond (b == 0 && begins 35 bs) (unescaped bs) (b ∷ unescaped bs)

-- the path part
unfoldable pub path_part : List ℕ → List ℕ
path_part text = unescaped (raw_path text)
