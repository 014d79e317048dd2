-- Parts of a search, one after the other.
use Rattle.std.proofs.Common.{◌≡◌, ◌<◌, ◌≤◌, Bool, true, false, cond, leb, List, [], ◌∷◌, ◌++◌, length, sym, refl, ap, ◌∙◌}
use Rattle.std.proofs.lemmas.Bool.{le-leb, lt-leb, cond-true}
use Rattle.file_system.specs.declared.store.Kind.TheVariants.{File}
use Rattle.file_system.specs.Tree.{Path, Node, nothing, directory, file, Tree, kind_of}
use Rattle.search.specs.declared.error.Refusal.{Refusal}
use Rattle.search.specs.declared.error.Refusal.TheVariants.{TrailFull, LongPath}
use Rattle.search.specs.Search.{Search, try, refuse, kind_asked, Limits, Trail, full, noted, note, when_noted, if_file, is_file, run, try_all}
use Rattle.search.specs.Course.{Course, went_on, chose, broke, Went}

module _ (l : Limits) (t : Tree) (f g : Search → Search) (qs qs' qs'' : Trail) where
  -- what follows a part that found nothing decides
  pub went_then : (c : Course) → Went l t f qs went_on qs' → Went l t g qs' c qs'' → Went l t (λ s. f (g s)) qs c qs''
  unfolding Went
  went_then went_on h k = λ s. h (g s) ∙ k s
  went_then (chose p) h k = λ s. h (g s) ∙ k s
  went_then (broke e) h k = λ s. h (g s) ∙ k s

  -- a part that ended the search ends it whatever follows
  pub went_chose : (p : Path) → Went l t f qs (chose p) qs' → Went l t (λ s. f (g s)) qs (chose p) qs'
  unfolding Went
  went_chose p h = λ s. h (g s)

  pub went_broke : (e : Refusal) → Went l t f qs (broke e) qs' → Went l t (λ s. f (g s)) qs (broke e) qs'
  unfolding Went
  went_broke e h = λ s. h (g s)

-- parts that give the same searches go alike
pub went_same : (l : Limits) (t : Tree) (f g : Search → Search) (qs : Trail) (c : Course) (qs' : Trail) → ((s : Search) → f s ≡ g s) → Went l t f qs c qs' → Went l t g qs c qs'
unfolding Went
went_same l t f g qs went_on qs' e h = λ s. ap (λ x. run l t x qs) (sym (e s)) ∙ h s
went_same l t f g qs (chose p) qs' e h = λ s. ap (λ x. run l t x qs) (sym (e s)) ∙ h s
went_same l t f g qs (broke r) qs' e h = λ s. ap (λ x. run l t x qs) (sym (e s)) ∙ h s

-- trying one list of paths and then another is trying both
pub try_both : (ps rs : List Path) (s : Search) → try_all (ps ++ rs) s ≡ try_all ps (try_all rs s)
unfolding try_all
try_both [] rs s = refl
try_both (p ∷ ps) rs s = ap (λ x. cond (leb (length p) 1024) (try p x) (refuse LongPath)) (try_both ps rs s)

pub try_none : (s : Search) → try_all [] s ≡ s
unfolding try_all
try_none s = refl

file_kind : (n : Node) → kind_of n ≡ File → is_file n ≡ true
file_kind nothing e = cc
file_kind directory e = cc
file_kind (file b) e = refl

other_kind : (n : Node) → (File ≡ kind_of n → ⊥) → is_file n ≡ false
other_kind nothing ne = refl
other_kind directory ne = refl
other_kind (file b) ne = absurd (ne refl)

-- one trial, by what the question came to
module _ (l : Limits) (t : Tree) (p : Path) (qs : Trail) where
  short : length p ≤ 1024 → (s : Search) → try_all (p ∷ []) s ≡ try p s
  unfolding try_all
  short h s = cond-true (leb (length p) 1024) (try p s) (refuse LongPath) (le-leb (length p) 1024 h)

  tries : (qs' : Trail) (b : Bool) → note l qs (kind_asked p) ≡ noted qs' → is_file (t p) ≡ b → (s : Search) → run l t (try p s) qs ≡ if_file b p qs' (run l t s qs')
  unfolding run
  tries qs' b e f s = ap (λ n. when_noted n qs (λ x. if_file (is_file (t p)) p x (run l t s x))) e ∙ ap (λ x. if_file x p qs' (run l t s qs')) f

  pub trial_chose : (qs' : Trail) → length p ≤ 1024 → note l qs (kind_asked p) ≡ noted qs' → kind_of (t p) ≡ File → Went l t (try_all (p ∷ [])) qs (chose p) qs'
  unfolding Went
  trial_chose qs' h e k = λ s. ap (λ x. run l t x qs) (short h s) ∙ tries qs' true e (file_kind (t p) k) s

  pub trial_failed : (qs' : Trail) → length p ≤ 1024 → note l qs (kind_asked p) ≡ noted qs' → (File ≡ kind_of (t p) → ⊥) → Went l t (try_all (p ∷ [])) qs went_on qs'
  unfolding Went
  trial_failed qs' h e k = λ s. ap (λ x. run l t x qs) (short h s) ∙ tries qs' false e (other_kind (t p) k) s

  pub trial_full : length p ≤ 1024 → note l qs (kind_asked p) ≡ full → Went l t (try_all (p ∷ [])) qs (broke TrailFull) qs
  unfolding Went run
  trial_full h e = λ s. ap (λ x. run l t x qs) (short h s) ∙ ap (λ n. when_noted n qs (λ x. if_file (is_file (t p)) p x (run l t s x))) e

  pub trial_long : 1024 < length p → Went l t (try_all (p ∷ [])) qs (broke LongPath) qs
  unfolding Went run try_all
  trial_long h = λ s. ap (λ b. run l t (cond b (try p s) (refuse LongPath)) qs) (lt-leb (length p) 1024 h)
