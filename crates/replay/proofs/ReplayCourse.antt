-- The course of a store: one call more, the tree that is present, and what each call came to in the tree that it met.
use Rattle.std.proofs.Common.{◌≡◌, List, [], ◌∷◌, ◌++◌, Some, None, Option, refl, ap, ◌∙◌, subst}
use Rattle.file_system.specs.Tree.{Tree}
use Rattle.file_system.specs.Store.{Space}
use Rattle.replay.specs.Event.{Event}
use Rattle.replay.specs.Present.{Change, change_of, changed, present}
use Rattle.replay.specs.Course.{Right, SpaceAfter, Made, InTurn}

pub present-append : (t : Tree) (es fs : List Event) → present t (es ++ fs) ≡ present (present t es) fs
present-append t [] fs = refl
present-append t (e ∷ es) fs = present-append (changed t (change_of e)) es fs

-- what a call came to in a tree, by the space of the store that it met
abbrev pub RightIn : Tree → Event → Type 0
RightIn t e = (space : Space) × Right t space e

-- each in the tree that those before left
abbrev pub RightInTurn : Tree → List Event → Type 0
RightInTurn t [] = Unit {0}
RightInTurn t (e ∷ es) = RightIn t e × RightInTurn (changed t (change_of e)) es

-- what comes behind a beginning is right in turn, from the tree present there
pub behind : (t : Tree) (es fs : List Event) → RightInTurn t (es ++ fs) → RightInTurn (present t es) fs
behind t [] fs h = h
behind t (e ∷ es) fs h = behind (changed t (change_of e)) es fs h.1

module _ {Store : Type 0} (sound : Store → Type 0) (tree : Store → Tree) (space : Store → Space) where
  abbrev Course : Store → List Event → Store → Type 0
  Course = InTurn sound tree space

  -- the tree at the end of a course
  pub present_after : (first : Store) (es : List Event) (last : Store) → Course first es last → tree last ≡ present (tree first) es
  present_after first [] last h = h.0
  present_after first (e ∷ es) last h = present_after h.0 es last h.1.1 ∙ ap (λ (t : Tree). present t es) h.1.0.tree_after

  pub right_in_turn : (first : Store) (es : List Event) (last : Store) → Course first es last → RightInTurn (tree first) es
  right_in_turn first [] last h = tt
  right_in_turn first (e ∷ es) last h = ((space first, h.1.0.right), subst (λ (t : Tree). RightInTurn t es) h.1.0.tree_after (right_in_turn h.0 es last h.1.1))

  space_kept : (c : Option Change) (s s' after : Space) → s' ≡ s → SpaceAfter c s' after → SpaceAfter c s after
  space_kept None s s' after same h = h ∙ same
  space_kept (Some c) s s' after same h = tt

  -- a call of a store whose meaning is that of another
  made_as : (e : Event) (first s s' : Store) → tree s ≡ tree first → space s ≡ space first → Made sound tree space s e s' → Made sound tree space first e s'
  made_as e first s s' trees spaces h = record {
    right = subst (λ (t : Tree). Right t (space first) e) trees (subst (λ (x : Space). Right (tree s) x e) spaces h.right);
    tree_after = h.tree_after ∙ ap (λ (t : Tree). changed t (change_of e)) trees;
    space_after = space_kept (change_of e) (space first) (space s) (space s') spaces h.space_after;
    sound_after = h.sound_after;
  }

  -- a course that goes on
  pub course-append : (first : Store) (before : List Event) (start : Store) (es : List Event) (last : Store) → Course first before start → Course start es last → Course first (before ++ es) last
  course-append first [] start [] last h k = (k.0 ∙ h.0, k.1 ∙ h.1)
  course-append first [] start (e ∷ es) last h k = (k.0, (made_as e first start k.0 h.0 h.1 k.1.0, k.1.1))
  course-append first (x ∷ before) start es last h k = (h.0, (h.1.0, course-append h.0 before start es last h.1.1 k))

  -- one call
  pub one_made : (s : Store) (e : Event) (s' : Store) → Made sound tree space s e s' → Course s (e ∷ []) s'
  one_made s e s' made = (s', (made, (refl, refl)))
