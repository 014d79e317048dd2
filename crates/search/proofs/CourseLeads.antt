-- Searches that were carried out so far, one part after the other.
use Rattle.std.proofs.Common.{◌≡◌, ℕ, List, Bool, true, false, sym, refl, ap, ◌∙◌, subst, Ok, Err, Option}
use Rattle.file_system.specs.declared.store.Kind.{Kind}
use Rattle.file_system.specs.declared.store.Kind.TheVariants.{Directory}
use Rattle.file_system.specs.declared.store.Part.{Part}
use Rattle.file_system.specs.Tree.{Path, Node, nothing, directory, file, Tree, kind_of, is_directory}
use Rattle.search.specs.declared.error.Refusal.{Refusal}
use Rattle.search.specs.Search.{Search, refuse, choose, none_left, if_directory, read_manifest, manifest_in, content_of, kind_asked, manifest_at, Limits, Trail, on_trail, noted, note, Outcome, refused, chosen, none, result, when_noted, run}
use Rattle.search.specs.Memory.{InMemory, limits_of, Holds, Grew}
use Rattle.search.specs.Asking.{Answered, Read}
use Rattle.search.specs.Course.{Course, went_on, chose, broke, Went, Walked, Finished}
use Rattle.search.proofs.Carried.{Stand, left, over, stand_of, Goes, Leads}
use Rattle.search.proofs.TrailMemory.{note_is}
use Rattle.search.proofs.CourseWalks.{limits_kept}

-- nothing was carried out yet; and what is over at once
module _ (t : Tree) (a : InMemory) where
  pub leads_none : (s : Search) → Leads t a a s (left s)
  unfolding Goes
  leads_none s = λ qs h. (qs, (h, refl))

  pub leads_refused : (e : Refusal) → Leads t a a (refuse e) (over (refused e))
  unfolding Goes run
  leads_refused e = λ qs h. (qs, (h, refl))

  pub leads_chosen : (p : Path) → Leads t a a (choose p) (over (chosen p))
  unfolding Goes run
  leads_chosen p = λ qs h. (qs, (h, refl))

  pub leads_ended : Leads t a a none_left (over none)
  unfolding Goes run
  leads_ended = λ qs h. (qs, (h, refl))

module _ (l : Limits) (t : Tree) (s s' : Search) (qs qs' qs'' : Trail) where
  goes_then : (st : Stand) → Goes l t s qs (left s') qs' → Goes l t s' qs' st qs'' → Goes l t s qs st qs''
  unfolding Goes
  goes_then (left r) h k = h ∙ k
  goes_then (over o) h k = h ∙ k

-- what was left went on
pub leads_then : (t : Tree) (a b : InMemory) (s s' : Search) (c : InMemory) (t' : Tree) (st : Stand) → Grew a b → t' ≡ t → Leads t a b s (left s') → Leads t' b c s' st → Leads t a c s st
leads_then t a b s s' c t' st grew same first second = λ qs h.
    let x = first qs h in
    let y = subst (λ u. Leads u b c s' st) same second x.0 x.1.0 in
    (y.0, (y.1.0, goes_then (limits_of a) t s s' qs x.0 y.0 st x.1.1 (subst (λ l. Goes l t s' x.0 st y.0) (limits_kept a b grew) y.1.1)))

-- what was left is a refusal
pub leads_refusing : (t : Tree) (a b : InMemory) (s : Search) (e : Refusal) → Leads t a b s (left (refuse e)) → Leads t a b s (over (refused e))
unfolding Goes run
leads_refusing t a b s e w = w

pub leads_same : (t : Tree) (a b : InMemory) (s s' : Search) (st : Stand) → s ≡ s' → Leads t a b s st → Leads t a b s' st
leads_same t a b s s' st e h = subst (λ x. Leads t a b x st) e h

pub leads_to : (t : Tree) (a b : InMemory) (s : Search) (st st' : Stand) → st ≡ st' → Leads t a b s st → Leads t a b s st'
leads_to t a b s st st' e h = subst (Leads t a b s) e h

-- a part that was walked, followed by any rest
went_goes : (l : Limits) (t : Tree) (f : Search → Search) (qs : Trail) (c : Course) (qs' : Trail) → Went l t f qs c qs' → (s : Search) → Goes l t (f s) qs (stand_of c s) qs'
unfolding Went Goes
went_goes l t f qs went_on qs' h s = h s
went_goes l t f qs (chose p) qs' h s = h s
went_goes l t f qs (broke e) qs' h s = h s

pub leads_walked : (t : Tree) (a b : InMemory) (f : Search → Search) (c : Course) → Walked t a b f c → (s : Search) → Leads t a b (f s) (stand_of c s)
leads_walked t a b f c w s = λ qs h. let x = w qs h in (x.0, (x.1.0, went_goes (limits_of a) t f qs c x.0 x.1.1 s))

-- a whole search is one that is over
pub leads_finished : (t : Tree) (a b : InMemory) (s : Search) (o : Outcome) → Leads t a b s (over o) → Finished t a b s o
unfolding Goes
leads_finished t a b s o w = w

directory_kind : (n : Node) → Directory ≡ kind_of n → is_directory n ≡ true
directory_kind nothing e = cc
directory_kind directory e = refl
directory_kind (file b) e = cc

other_kind : (n : Node) → (Directory ≡ kind_of n → ⊥) → is_directory n ≡ false
other_kind nothing ne = refl
other_kind directory ne = absurd (ne refl)
other_kind (file b) ne = refl

-- a question of a kind
module _ (t : Tree) (a b : InMemory) (p : Path) (f : Bool → Search) where
  asked : (qs qs' : Trail) (x : Bool) → note (limits_of a) qs (kind_asked p) ≡ noted qs' → is_directory (t p) ≡ x → run (limits_of a) t (if_directory p f) qs ≡ run (limits_of a) t (f x) qs'
  unfolding run
  asked qs qs' x e d = ap (λ n. when_noted n qs (run (limits_of a) t (f (is_directory (t p))))) e ∙ ap (λ y. run (limits_of a) t (f y) qs') d

  pub leads_directory : (k : Kind) → k ≡ Directory → ((qs : Trail) → Holds t a qs → Answered t a b p (Ok k) qs) → Leads t a b (if_directory p f) (left (f true))
  unfolding Goes
  leads_directory k is h = λ qs here. let x = h qs here in (x.0, (x.1.0, asked qs x.0 true x.1.1 (directory_kind (t p) (sym is ∙ x.1.2))))

  pub leads_no_directory : (k : Kind) → (k ≡ Directory → ⊥) → ((qs : Trail) → Holds t a qs → Answered t a b p (Ok k) qs) → Leads t a b (if_directory p f) (left (f false))
  unfolding Goes
  leads_no_directory k ne h = λ qs here. let x = h qs here in (x.0, (x.1.0, asked qs x.0 false x.1.1 (other_kind (t p) (λ e. ne (x.1.2 ∙ sym e)))))

  pub leads_kind_full : (e : Refusal) → ((qs : Trail) → Holds t a qs → Answered t a b p (Err e) qs) → Leads t a b (if_directory p f) (over (refused e))
  unfolding Goes run
  leads_kind_full e h = λ qs here. let x = h qs here in (qs, (x.0, ap (λ n. when_noted n qs (run (limits_of a) t (f (is_directory (t p))))) x.1 ∙ ap (λ y. result (refused y) qs) (sym x.2)))

-- the read of a manifest
module _ (t : Tree) (a b : InMemory) (d : Path) (size : ℕ) (f : Option (List ℕ) → Search) where
  pub leads_read : (part : Option Part) → ((qs : Trail) → Holds t a qs → Read t a b (manifest_in d) size (Ok part) qs) → Leads t a b (read_manifest d f) (left (f (content_of (t (manifest_in d)))))
  unfolding Goes run
  leads_read part h = λ qs here. let x = h qs here in (x.0, (x.1.0, ap (λ n. when_noted n qs (run (limits_of a) t (f (content_of (t (manifest_in d)))))) x.1.1))

  pub leads_read_full : (e : Refusal) → ((qs : Trail) → Holds t a qs → Read t a b (manifest_in d) size (Err e) qs) → Leads t a b (read_manifest d f) (over (refused e))
  unfolding Goes run
  leads_read_full e h = λ qs here. let x = h qs here in (qs, (x.0, ap (λ n. when_noted n qs (run (limits_of a) t (f (content_of (t (manifest_in d)))))) x.1 ∙ ap (λ y. result (refused y) qs) (sym x.2)))

  pub leads_again : ((qs : Trail) → Holds t a qs → on_trail qs (manifest_at (manifest_in d)) ≡ true) → Leads t a a (read_manifest d f) (left (f (content_of (t (manifest_in d)))))
  unfolding Goes run
  leads_again there = λ qs here. (qs, (here, ap (λ n. when_noted n qs (run (limits_of a) t (f (content_of (t (manifest_in d)))))) (note_is (limits_of a) qs (manifest_at (manifest_in d)) true _ (there qs here) refl)))
