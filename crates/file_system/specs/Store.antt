-- What a store answers to questions, additions and removals, by its tree and its space.
use Rattle.std.specs.Prelude.{◌≡◌, ◌≢◌, ℕ, ◌-◌, min, Bool, true, false, cond, ◌&&◌, List, ◌++◌, length, take, drop, Some, None, Ok, Err, Option, Result, nat_le, codes}
use Rattle.path.specs.Path.{has_parent, parent_of}
use Rattle.file_system.specs.declared.store.Kind.{Kind}
use Rattle.file_system.specs.declared.store.Kind.TheVariants.{Nothing, Directory, File}
use Rattle.file_system.specs.declared.store.Part.{Part}
use Rattle.file_system.specs.declared.store.Refusal.{Refusal}
use Rattle.file_system.specs.declared.store.Refusal.TheVariants.{NotAdmissible, NoParent, Conflict, NoSpace}
use Rattle.file_system.specs.Tree.{Path, Node, nothing, directory, file, Tree, is_directory, is_nothing, storable, Changed}

-- the number of each refusal
abbrev pub number_of : Refusal → ℕ
number_of NotAdmissible = 12
number_of NoParent = 13
number_of Conflict = 14
number_of NoSpace = 15

-- the word for each refusal, and for each kind
abbrev pub refusal_text : Refusal → List ℕ
refusal_text NotAdmissible = codes "not-admissible"
refusal_text NoParent = codes "no-parent"
refusal_text Conflict = codes "conflict"
refusal_text NoSpace = codes "no-space"

abbrev pub kind_text : Kind → List ℕ
kind_text Nothing = codes "nothing"
kind_text Directory = codes "directory"
kind_text File = codes "file"

-- how many bytes a read from a place gives into a part of that size
abbrev pub count_of : List ℕ → ℕ → ℕ → ℕ
count_of content from size = min size (length content - from)

-- A read tells the count of bytes given and the whole length, or that there is no file.
abbrev pub told : Node → ℕ → ℕ → Option Part
told nothing from size = None
told directory from size = None
told (file content) from size = Some record { count = count_of content from size; length = length content }

-- The part after a read: the file's bytes from that place on, as far as they fit, and the rest as before.
abbrev pub filled : Node → ℕ → List ℕ → List ℕ
filled nothing from into = into
filled directory from into = into
filled (file content) from into = take (length into) (drop from content) ++ drop (count_of content from (length into)) into

-- the path is not `/`, and its parent is a directory
unfoldable pub has_place : Tree → Path → Bool
has_place t p = has_parent p && is_directory (t (parent_of p))

-- whether there is space for a path and so many bytes of content
abbrev pub Space : Type 0
Space = Path → ℕ → Bool

-- The answer to an addition at a path, of so many bytes: the first check that fails refuses it.
unfoldable pub addition : Tree → Space → Path → ℕ → Result (Unit {0}) Refusal
addition t space p size =
    cond (storable p && nat_le size 65535)
    (cond (has_place t p)
    (cond (is_nothing (t p))
    (cond (space p size) (Ok tt) (Err NoSpace))
    (Err Conflict))
    (Err NoParent))
    (Err NotAdmissible)

-- What a removal may take: a file, or a directory with nothing directly in it.
abbrev pub Removable : Tree → Path → Node → Type 0
Removable t p nothing = ⊥
Removable t p directory = (q : Path) → has_parent q ≡ true → parent_of q ≡ p → t q ≡ nothing
Removable t p (file content) = Unit {0}

-- ... and what it may not: nothing, or a directory with something in it.
abbrev pub NotRemovable : Tree → Path → Node → Type 0
NotRemovable t p nothing = Unit {0}
NotRemovable t p directory = (q : Path) × ((has_parent q ≡ true) × (parent_of q ≡ p) × (t q ≢ nothing))
NotRemovable t p (file content) = ⊥

-- The answer to a removal at a path: the first check that fails refuses it. A relation and no function, since whether
-- a directory is empty is a fact about all paths.
abbrev pub Removal : Tree → Path → Result (Unit {0}) Refusal → Type 0
Removal t p (Ok _) = (storable p ≡ true) × (has_place t p ≡ true) × Removable t p (t p)
Removal t p (Err NotAdmissible) = storable p ≡ false
Removal t p (Err NoParent) = (storable p ≡ true) × (has_place t p ≡ false)
Removal t p (Err Conflict) = (storable p ≡ true) × (has_place t p ≡ true) × NotRemovable t p (t p)
Removal t p (Err NoSpace) = ⊥

-- What a change leaves: where it was accepted that path is as asked and nothing else is altered, where it was refused
-- tree and space are as before.
abbrev pub IfAccepted : Result (Unit {0}) Refusal → Path → Node → Tree → Tree → Space → Space → Type 0
IfAccepted (Ok _) p node before after space space' = Changed before after p node
IfAccepted (Err _) p node before after space space' = (after ≡ before) × (space' ≡ space)
