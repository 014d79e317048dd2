-- A search, as what it does next, and what it comes to in a tree.
use Rattle.std.specs.Prelude.{ℕ, ◌+◌, ◌-◌, Bool, true, false, cond, ◌&&◌, ◌||◌, List, [], ◌∷◌, ◌++◌, length, drop, Some, None, codes, Option, nat_le, nat_lt}
use Rattle.std.specs.Str.{bytes_eq}
use Rattle.file_system.specs.Tree.{Path, Node, nothing, directory, file, Tree, is_directory}
use Rattle.search.specs.declared.error.Refusal.{Refusal}
use Rattle.search.specs.declared.error.Refusal.TheVariants.{TrailFull, LongPath}
use Rattle.search.specs.declared.TheConstants.{PATH_SIZE}

abbrev pub is_file : Node → Bool
is_file nothing = false
is_file directory = false
is_file (file content) = true

-- the content of a file, and none elsewhere
abbrev pub content_of : Node → Option (List ℕ)
content_of nothing = None
content_of directory = None
content_of (file content) = Some content

-- a text that ends with another
unfoldable pub ends_with : List ℕ → List ℕ → Bool
ends_with text tail = bytes_eq (drop (length text - length tail) text) tail

-- the manifest that stands in a directory
unfoldable pub manifest_in : Path → Path
manifest_in d = cond (bytes_eq d (47 ∷ [])) [] d ++ codes "/package.json"

-- A search is refused, or has nothing left, or chooses a path; or it goes on by whether a path is a directory; or it
-- tries a path, which is chosen if it is a file, and else goes on; or it goes on by the manifest of a directory.
pub data Search : Type 0 where
  refuse : Refusal → Search
  none_left : Search
  choose : Path → Search
  if_directory : Path → (Bool → Search) → Search
  try : Path → Search → Search
  read_manifest : Path → (Option (List ℕ) → Search) → Search

-- what a store is asked: the kind of a path, or the manifest that stands there
pub data Question : Type 0 where
  kind_asked : Path → Question
  manifest_at : Path → Question

abbrev pub path_of : Question → Path
path_of (kind_asked p) = p
path_of (manifest_at p) = p

abbrev pub same_question : Question → Question → Bool
same_question (kind_asked p) (kind_asked q) = bytes_eq p q
same_question (kind_asked p) (manifest_at q) = false
same_question (manifest_at p) (kind_asked q) = false
same_question (manifest_at p) (manifest_at q) = bytes_eq p q

-- a trail is the questions in order of first need
abbrev pub Trail : Type 0
Trail = List Question

unfoldable pub on_trail : Trail → Question → Bool
on_trail [] q = false
on_trail (x ∷ qs) q = same_question x q || on_trail qs q

-- the paths of a trail, one after the other
abbrev pub path_bytes : Trail → List ℕ
path_bytes [] = []
path_bytes (q ∷ qs) = path_of q ++ path_bytes qs

-- how many steps and how many bytes of paths a trail may have
pub record Limits : Type 0 where
  pub steps : ℕ
  pub bytes : ℕ

unfoldable pub room : Limits → Trail → Question → Bool
room l qs q = nat_lt (length qs) l.steps && nat_le (length (path_bytes qs) + length (path_of q)) l.bytes

pub data Noted : Type 0 where
  full : Noted
  noted : Trail → Noted

-- A question is noted once, at the end, if there is room for it.
unfoldable pub note : Limits → Trail → Question → Noted
note l qs q = cond (on_trail qs q) (noted qs) (cond (room l qs q) (noted (qs ++ q ∷ [])) full)

pub data Outcome : Type 0 where
  refused : Refusal → Outcome
  none : Outcome
  chosen : Path → Outcome

pub record Result : Type 0 where
  pub outcome : Outcome
  pub trail : Trail

abbrev pub result : Outcome → Trail → Result
result o qs = record { outcome = o; trail = qs }

abbrev pub when_noted : Noted → Trail → (Trail → Result) → Result
when_noted full qs k = result (refused TrailFull) qs
when_noted (noted qs') qs k = k qs'

abbrev pub if_file : Bool → Path → Trail → Result → Result
if_file true p qs r = result (chosen p) qs
if_file false p qs r = r

-- What a search comes to in a tree, from a trail on. The tree is asked only about what is noted.
unfoldable pub run : Limits → Tree → Search → Trail → Result
run l t (refuse e) qs = result (refused e) qs
run l t none_left qs = result none qs
run l t (choose p) qs = result (chosen p) qs
run l t (if_directory p k) qs = when_noted (note l qs (kind_asked p)) qs (run l t (k (is_directory (t p))))
run l t (try p s) qs = when_noted (note l qs (kind_asked p)) qs (λ qs'. if_file (is_file (t p)) p qs' (run l t s qs'))
run l t (read_manifest d k) qs = when_noted (note l qs (manifest_at (manifest_in d))) qs (run l t (k (content_of (t (manifest_in d)))))

-- Each of the paths is tried in turn; one of more than 1,024 bytes refuses.
unfoldable pub try_all : List Path → Search → Search
try_all [] s = s
try_all (p ∷ ps) s = cond (nat_le (length p) PATH_SIZE) (try p (try_all ps s)) (refuse LongPath)
