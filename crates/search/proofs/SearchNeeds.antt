-- A run is what a search comes to and needs.
use Rattle.std.proofs.Common.{◌≡◌, Bool, true, false, cond, ◌&&◌, [], ◌∷◌, ◌++◌, sym, ap, ◌∙◌, append_assoc, append-nil}
use Rattle.file_system.specs.Tree.{Path, Tree, is_directory}
use Rattle.search.specs.Search.{is_file, content_of, manifest_in, Question, kind_asked, manifest_at, Limits, Trail, on_trail, room, full, noted, note, Search, refuse, none_left, choose, if_directory, try, read_manifest, Outcome, refused, none, chosen, Result, result, when_noted, if_file, run}
use Rattle.search.specs.Needs.{comes_to, needs, firsts, all_fit, fitting, within_limits}
use Rattle.search.specs.Laws.{RunIsWhatItNeeds}
use Rattle.search.specs.declared.error.Refusal.TheVariants.{TrailFull}

module _ (l : Limits) where
  nothing_new : (qs : Trail) (o : Outcome) → result o qs ≡ within_limits l qs o (firsts qs [])
  unfolding firsts all_fit fitting
  nothing_new qs o = ap (result o) (sym (append-nil qs))

  module _ (q : Question) (rest : Trail) (k : Trail → Result) (o : Outcome) (goes : (qs' : Trail) → k qs' ≡ within_limits l qs' o (firsts qs' rest)) where
    with_room : (qs : Trail) (b : Bool) → when_noted (cond b (noted (qs ++ q ∷ [])) full) qs k
        ≡ result (cond (b && all_fit l (qs ++ q ∷ []) (firsts (qs ++ q ∷ []) rest)) o (refused TrailFull)) (qs ++ cond b (q ∷ fitting l (qs ++ q ∷ []) (firsts (qs ++ q ∷ []) rest)) [])
    with_room qs true =
        goes (qs ++ q ∷ [])
        ∙ ap (result (cond (all_fit l (qs ++ q ∷ []) (firsts (qs ++ q ∷ []) rest)) o (refused TrailFull))) (append_assoc qs (q ∷ []) (fitting l (qs ++ q ∷ []) (firsts (qs ++ q ∷ []) rest)))
    with_room qs false = ap (result (refused TrailFull)) (sym (append-nil qs))

    if_new : (qs : Trail) (a : Bool) → when_noted (cond a (noted qs) (cond (room l qs q) (noted (qs ++ q ∷ [])) full)) qs k
        ≡ within_limits l qs o (cond a (firsts qs rest) (q ∷ firsts (qs ++ q ∷ []) rest))
    unfolding all_fit fitting
    if_new qs true = goes qs
    if_new qs false = with_room qs (room l qs q)

    asked : (qs : Trail) → when_noted (note l qs q) qs k ≡ within_limits l qs o (firsts qs (q ∷ rest))
    unfolding note firsts
    asked qs = if_new qs (on_trail qs q)

  by_file : (b : Bool) (p : Path) (r : Result) (qs : Trail) (o : Outcome) (rest : Trail) → r ≡ within_limits l qs o (firsts qs rest)
      → if_file b p qs r ≡ within_limits l qs (cond b (chosen p) o) (firsts qs (cond b [] rest))
  by_file true p r qs o rest h = nothing_new qs (chosen p)
  by_file false p r qs o rest h = h

  module _ (t : Tree) where
    runs : (s : Search) (qs : Trail) → run l t s qs ≡ within_limits l qs (comes_to t s) (firsts qs (needs t s))
    unfolding run comes_to needs
    runs (refuse e) qs = nothing_new qs (refused e)
    runs none_left qs = nothing_new qs none
    runs (choose p) qs = nothing_new qs (chosen p)
    runs (if_directory p k) qs =
        asked (kind_asked p) (needs t (k (is_directory (t p)))) (run l t (k (is_directory (t p)))) (comes_to t (k (is_directory (t p)))) (λ qs'. runs (k (is_directory (t p))) qs') qs
    runs (try p s) qs =
        asked (kind_asked p) (cond (is_file (t p)) [] (needs t s)) (λ x. if_file (is_file (t p)) p x (run l t s x)) (cond (is_file (t p)) (chosen p) (comes_to t s))
        (λ qs'. by_file (is_file (t p)) p (run l t s qs') qs' (comes_to t s) (needs t s) (runs s qs')) qs
    runs (read_manifest d k) qs =
        asked (manifest_at (manifest_in d)) (needs t (k (content_of (t (manifest_in d))))) (run l t (k (content_of (t (manifest_in d))))) (comes_to t (k (content_of (t (manifest_in d)))))
        (λ qs'. runs (k (content_of (t (manifest_in d)))) qs') qs

pub run_is_what_it_needs : RunIsWhatItNeeds
run_is_what_it_needs l t s qs = runs l t s qs
