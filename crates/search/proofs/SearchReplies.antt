-- Same replies on the trail, same answer and trail: for every search.
use Rattle.std.proofs.Common.{◌≡◌, Bool, true, false, [], ◌∷◌, sym, refl, ap, ◌∙◌}
use Rattle.file_system.specs.declared.store.Kind.{Kind}
use Rattle.file_system.specs.declared.store.Kind.TheVariants.{Nothing, Directory, File}
use Rattle.file_system.specs.Tree.{Path, Node, nothing, directory, file, Tree, kind_of, is_directory}
use Rattle.search.specs.Search.{Search, refuse, none_left, choose, if_directory, try, read_manifest, Question, kind_asked, manifest_at, Limits, Trail, Noted, full, noted, note, Result, when_noted, if_file, is_file, content_of, manifest_in, run}
use Rattle.search.specs.Laws.{SameReply, SameReplies, SameRepliesSameAnswer}
use Rattle.search.proofs.TrailNoting.{Each, each_noted, each_before}

module _ (l : Limits) (P : Question → Type 0) where
  -- a question that is noted before the search goes on keeps what the trail had
  via : (q : Question) (qs : Trail) (k : Trail → Result) → ((qs' : Trail) → Each P (k qs').trail → Each P qs') → (n : Noted) → note l qs q ≡ n → Each P (when_noted n qs k).trail → Each P qs
  via q qs k ih full e h = h
  via q qs k ih (noted qs') e h = each_before P l qs q qs' e (ih qs' h)

  found : (b : Bool) (p : Path) (qs : Trail) (r : Result) → (Each P r.trail → Each P qs) → Each P (if_file b p qs r).trail → Each P qs
  found true p qs r ih h = h
  found false p qs r ih h = ih h

  -- what holds of each question of the final trail holds of each that the search began with
  kept : (t : Tree) (s : Search) (qs : Trail) → Each P (run l t s qs).trail → Each P qs
  unfolding run
  kept t (refuse e) qs h = h
  kept t none_left qs h = h
  kept t (choose p) qs h = h
  kept t (if_directory p k) qs h = via (kind_asked p) qs (run l t (k (is_directory (t p)))) (λ qs' g. kept t (k (is_directory (t p))) qs' g) (note l qs (kind_asked p)) refl h
  kept t (try p s) qs h = via (kind_asked p) qs (λ qs'. if_file (is_file (t p)) p qs' (run l t s qs')) (λ qs' g. found (is_file (t p)) p qs' (run l t s qs') (λ h'. kept t s qs' h') g) (note l qs (kind_asked p)) refl h
  kept t (read_manifest d k) qs h = via (manifest_at (manifest_in d)) qs (run l t (k (content_of (t (manifest_in d))))) (λ qs' g. kept t (k (content_of (t (manifest_in d)))) qs' g) (note l qs (manifest_at (manifest_in d))) refl h

directory_by_kind : (n n' : Node) → kind_of n' ≡ kind_of n → is_directory n' ≡ is_directory n
directory_by_kind n n' e = sym (told n') ∙ ap by_kind e ∙ told n
  where
    by_kind : Kind → Bool
    by_kind Nothing = false
    by_kind Directory = true
    by_kind File = false

    told : (x : Node) → by_kind (kind_of x) ≡ is_directory x
    told nothing = refl
    told directory = refl
    told (file b) = refl

file_by_kind : (n n' : Node) → kind_of n' ≡ kind_of n → is_file n' ≡ is_file n
file_by_kind n n' e = sym (told n') ∙ ap by_kind e ∙ told n
  where
    by_kind : Kind → Bool
    by_kind Nothing = false
    by_kind Directory = false
    by_kind File = true

    told : (x : Node) → by_kind (kind_of x) ≡ is_file x
    told nothing = refl
    told directory = refl
    told (file b) = refl

module _ (l : Limits) (t t' : Tree) where
  -- the search goes on alike after a question whose reply is the same
  onward : (q : Question) (qs : Trail) (k k' : Trail → Result) → ((qs' : Trail) → Each (SameReply t t') (k qs').trail → Each (SameReply t t') qs') → ((qs' : Trail) → SameReply t t' q → Each (SameReply t t') (k qs').trail → k' qs' ≡ k qs') → (n : Noted) → note l qs q ≡ n → Each (SameReply t t') (when_noted n qs k).trail → when_noted n qs k' ≡ when_noted n qs k
  onward q qs k k' back ih full e h = refl
  onward q qs k k' back ih (noted qs') e h = ih qs' (each_noted (SameReply t t') l qs q qs' e (back qs' h)) h

  on_file : (b : Bool) (p : Path) (qs : Trail) (r r' : Result) → (Each (SameReply t t') r.trail → r' ≡ r) → Each (SameReply t t') (if_file b p qs r).trail → if_file b p qs r' ≡ if_file b p qs r
  on_file true p qs r r' ih h = refl
  on_file false p qs r r' ih h = ih h

  same : (s : Search) (qs : Trail) → Each (SameReply t t') (run l t s qs).trail → run l t' s qs ≡ run l t s qs
  unfolding run
  same (refuse e) qs h = refl
  same none_left qs h = refl
  same (choose p) qs h = refl
  same (if_directory p k) qs h =
      onward (kind_asked p) qs (run l t (k (is_directory (t p)))) (run l t' (k (is_directory (t' p))))
      (λ qs' g. kept l (SameReply t t') t (k (is_directory (t p))) qs' g)
      (λ qs' r g. ap (λ b. run l t' (k b) qs') (directory_by_kind (t p) (t' p) r) ∙ same (k (is_directory (t p))) qs' g)
      (note l qs (kind_asked p)) refl h
  same (try p s) qs h =
      onward (kind_asked p) qs (λ qs'. if_file (is_file (t p)) p qs' (run l t s qs')) (λ qs'. if_file (is_file (t' p)) p qs' (run l t' s qs'))
      (λ qs' g. found l (SameReply t t') (is_file (t p)) p qs' (run l t s qs') (λ h'. kept l (SameReply t t') t s qs' h') g)
      (λ qs' r g. ap (λ b. if_file b p qs' (run l t' s qs')) (file_by_kind (t p) (t' p) r) ∙ on_file (is_file (t p)) p qs' (run l t s qs') (run l t' s qs') (λ h'. same s qs' h') g)
      (note l qs (kind_asked p)) refl h
  same (read_manifest d k) qs h =
      onward (manifest_at (manifest_in d)) qs (run l t (k (content_of (t (manifest_in d))))) (run l t' (k (content_of (t' (manifest_in d)))))
      (λ qs' g. kept l (SameReply t t') t (k (content_of (t (manifest_in d)))) qs' g)
      (λ qs' r g. ap (λ b. run l t' (k b) qs') r ∙ same (k (content_of (t (manifest_in d)))) qs' g)
      (note l qs (manifest_at (manifest_in d))) refl h

  each_from : (qs : Trail) → SameReplies t t' qs → Each (SameReply t t') qs
  each_from [] h = tt
  each_from (q ∷ qs) h = (h.0, each_from qs h.1)

pub proved : SameRepliesSameAnswer
proved l t t' s qs h = same l t t' s qs (each_from l t t' (run l t s qs).trail h)
