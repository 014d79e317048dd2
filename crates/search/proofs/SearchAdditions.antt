-- Added files change nothing or are themselves chosen: for every search.
use Rattle.std.proofs.Common.{◌≡◌, Bool, true, false, sym, refl, ap, ◌∙◌, inl, inr}
use Rattle.std.proofs.lemmas.Bool.{both_ways}
use Rattle.file_system.specs.Tree.{Path, Tree, is_directory}
use Rattle.search.specs.Search.{Search, refuse, none_left, choose, if_directory, try, read_manifest, kind_asked, manifest_at, Limits, Trail, Noted, full, noted, note, Result, when_noted, if_file, is_file, content_of, manifest_in, run}
use Rattle.search.specs.Laws.{is_manifest, OnlyFilesAdded, SameOrNew, AddedFilesAreHarmless}
use Rattle.search.proofs.ManifestPaths.{manifest_called}

module _ (l : Limits) (t t' : Tree) (added : OnlyFilesAdded t t') where
  directories : (p : Path) → is_directory (t' p) ≡ is_directory (t p)
  directories p = elim (added p) [ inl same ↦ ap is_directory same | inr new ↦ ap is_directory new.after ∙ sym (ap is_directory new.before) ]

  manifests : (d : Path) → content_of (t' (manifest_in d)) ≡ content_of (t (manifest_in d))
  manifests d = elim (added (manifest_in d)) [ inl same ↦ ap content_of same | inr new ↦ absurd (both_ways (is_manifest (manifest_in d)) new.no_manifest (manifest_called d)) ]

  via : (n : Noted) (qs : Trail) (k k' : Trail → Result) → ((qs' : Trail) → SameOrNew t t' (k qs') (k' qs')) → SameOrNew t t' (when_noted n qs k) (when_noted n qs k')
  via full qs k k' h = inl refl
  via (noted qs') qs k k' h = h qs'

  -- a path that was no file and is one now is new
  tries : (b b' : Bool) (p : Path) → is_file (t p) ≡ b → is_file (t' p) ≡ b' → (qs : Trail) (r r' : Result) → SameOrNew t t' r r' → SameOrNew t t' (if_file b p qs r) (if_file b' p qs r')
  tries true true p e e' qs r r' h = inl refl
  tries false false p e e' qs r r' h = h
  tries true false p e e' qs r r' h = elim (added p) [
    | inl same ↦ absurd (both_ways (is_file (t' p)) e' (ap is_file same ∙ e))
    | inr new ↦ absurd (both_ways (is_file (t' p)) e' (ap is_file new.after))
  ]
  tries false true p e e' qs r r' h = elim (added p) [
    | inl same ↦ absurd (both_ways (is_file (t' p)) (ap is_file same ∙ e) e')
    | inr new ↦ inr (p, refl, new)
  ]

  harmless : (s : Search) (qs : Trail) → SameOrNew t t' (run l t s qs) (run l t' s qs)
  unfolding run
  harmless (refuse e) qs = inl refl
  harmless none_left qs = inl refl
  harmless (choose p) qs = inl refl
  harmless (if_directory p k) qs = via (note l qs (kind_asked p)) qs (run l t (k (is_directory (t p)))) (run l t' (k (is_directory (t' p)))) (λ qs'. rw (directories p) (harmless (k (is_directory (t p))) qs'))
  harmless (try p s) qs = via (note l qs (kind_asked p)) qs (λ x. if_file (is_file (t p)) p x (run l t s x)) (λ x. if_file (is_file (t' p)) p x (run l t' s x)) (λ x. tries (is_file (t p)) (is_file (t' p)) p refl refl x (run l t s x) (run l t' s x) (harmless s x))
  harmless (read_manifest d k) qs = via (note l qs (manifest_at (manifest_in d))) qs (run l t (k (content_of (t (manifest_in d))))) (run l t' (k (content_of (t' (manifest_in d))))) (λ qs'. rw (manifests d) (harmless (k (content_of (t (manifest_in d)))) qs'))

pub proved : AddedFilesAreHarmless
proved l t t' added s qs = harmless l t t' added s qs
