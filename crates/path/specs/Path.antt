-- Paths by their components: what is normal, the parent of a path, and what joining gives.
use Rattle.std.specs.Prelude.{◌≡◌, ℕ, Bool, true, false, cond, not, ◌&&◌, ◌||◌, List, [], ◌∷◌, ◌++◌, length, Some, None, Option, ◌==◌, nat_le}
use Rattle.std.specs.Str.{bytes_eq}

-- A piece of text without a slash, which is byte 47.
unfoldable pub plain : List ℕ → Bool
plain [] = true
plain (b ∷ bs) = not (b == 47) && plain bs

-- A piece that changes nothing: it is empty or `.` (a dot is byte 46).
unfoldable pub stays : List ℕ → Bool
stays c = bytes_eq c [] || bytes_eq c (46 ∷ [])

-- A piece that leads up: `..`.
unfoldable pub goes_up : List ℕ → Bool
goes_up c = bytes_eq c (46 ∷ 46 ∷ [])

-- A component that may stand in a normal path: it is not empty, not `.` and not `..`.
unfoldable pub proper : List ℕ → Bool
proper c = not (stays c || goes_up c)

-- Each of the components passes the test.
unfoldable pub every : (List ℕ → Bool) → List (List ℕ) → Bool
every test [] = true
every test (c ∷ cs) = test c && every test cs

-- The first piece begins with one byte more.
unfoldable pub onto : ℕ → List (List ℕ) → List (List ℕ)
onto b [] = (b ∷ []) ∷ []
onto b (c ∷ cs) = (b ∷ c) ∷ cs

-- The pieces of a text that is cut at its slashes: one more than there are slashes, and some may be empty.
unfoldable pub split : List ℕ → List (List ℕ)
split [] = [] ∷ []
split (b ∷ bs) = cond (b == 47) ([] ∷ split bs) (onto b (split bs))

-- The pieces of what is left of a text, if anything is.
abbrev pub pieces_left : Option (List ℕ) → List (List ℕ)
pieces_left None = []
pieces_left (Some t) = split t

-- Each component behind a slash.
unfoldable pub behind : List (List ℕ) → List ℕ
behind [] = []
behind (c ∷ cs) = 47 ∷ (c ++ behind cs)

-- The path that has these components: `/` where there are none, else each of them behind a slash.
unfoldable pub written : List (List ℕ) → List ℕ
written [] = 47 ∷ []
written (c ∷ cs) = behind (c ∷ cs)

-- The components of a path: none where nothing follows its first byte, else the pieces of what follows.
unfoldable pub components : List ℕ → List (List ℕ)
components [] = []
components (b ∷ []) = []
components (b ∷ (x ∷ xs)) = split (x ∷ xs)

-- A normal path begins with a slash, and each of its components is proper.
unfoldable pub normal : List ℕ → Bool
normal [] = false
normal (b ∷ bs) = b == 47 && every proper (components (b ∷ bs))

-- The components but the last; none where there are none.
unfoldable pub without_last : List (List ℕ) → List (List ℕ)
without_last [] = []
without_last (c ∷ []) = []
without_last (c ∷ (d ∷ cs)) = c ∷ without_last (d ∷ cs)

-- A path has a parent if it is normal and not `/`.
unfoldable pub has_parent : List ℕ → Bool
has_parent p = normal p && not (bytes_eq p (47 ∷ []))

-- The parent is the path without its last component.
unfoldable pub parent_of : List ℕ → List ℕ
parent_of p = written (without_last (components p))

-- One piece of a subpath is put on: an empty one and `.` change nothing, `..` takes the last component off,
-- where there is one, and any other comes last.
unfoldable pub put : List (List ℕ) → List ℕ → List (List ℕ)
put cs c = cond (stays c) cs (cond (goes_up c) (without_last cs) (cs ++ c ∷ []))

-- What joining comes to: a path, nothing that is named, or a path that is too long.
pub data Outcome : Type 0 where
  names : List ℕ → Outcome
  nothing : Outcome
  too_long : Outcome

-- A path of more bytes than the limit is too long, and else it goes on.
unfoldable pub within : ℕ → List ℕ → Outcome → Outcome
within limit p next = cond (nat_le (length p) limit) next too_long

-- The pieces of a subpath are put on in turn, and the path is held to the limit after each.
unfoldable pub walk : ℕ → List (List ℕ) → List (List ℕ) → Outcome
walk limit cs [] = names (written cs)
walk limit cs (c ∷ rest) = within limit (written (put cs c)) (walk limit (put cs c) rest)

-- A subpath that begins with a slash stands for itself if it is normal, and names nothing if it is not.
abbrev pub itself : ℕ → List ℕ → Outcome
itself limit subpath = cond (normal subpath) (within limit subpath (names subpath)) nothing

-- A subpath as seen from a normal directory. An empty one names nothing; one that begins with a slash stands for
-- itself; any other is walked from the directory.
unfoldable pub seen_from : ℕ → List ℕ → List ℕ → Outcome
seen_from limit directory [] = nothing
seen_from limit directory (b ∷ bs) =
    cond (b == 47) (itself limit (b ∷ bs)) (within limit directory (walk limit (components directory) (split (b ∷ bs))))

-- Joining a subpath to a directory; from a directory that is not normal nothing is named.
unfoldable pub joining : ℕ → List ℕ → List ℕ → Outcome
joining limit directory subpath = cond (normal directory) (seen_from limit directory subpath) nothing

-- The path is written from components that are proper and hold no slash.
abbrev pub IsWritten : List ℕ → Type 0
IsWritten p = (cs : List (List ℕ)) × (every proper cs ≡ true) × (every plain cs ≡ true) × (p ≡ written cs)
