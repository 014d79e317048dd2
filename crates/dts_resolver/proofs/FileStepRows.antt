-- The trials of a row, column by column.
use Rattle.std.proofs.Common.{◌≡◌, ℕ, ◌+◌, ◌<◌, map, get_or, take, drop, Bool, true, false, cond, eqb, List, [], ◌∷◌, ◌++◌, length, sym, refl, ap, ◌∙◌, inl, inr, arith}
use Rattle.std.proofs.lemmas.Bool.{cases_Bool, eqb-true, eqb-false}
use Rattle.file_system.specs.Tree.{Path, Tree}
use Rattle.search.specs.Search.{Limits, Trail, run, try_all}
use Rattle.search.specs.Memory.{InMemory, Grew}
use Rattle.search.specs.Course.{Walked, Course, went_on, Went}
use Rattle.dts_resolver.specs.Extensions.{has}
use Rattle.dts_resolver.specs.Endings.{ending_of, stem_of, Column, plain_row, other_row, columns, row_trials, ending_trials, file_trials}
use Rattle.dts_resolver.specs.Rows.{named_column, row_of, columns_in}
use Rattle.std.specs.Borrow.{Bor}
use Rattle.std.proofs.lemmas.List.{map-append, take_more, take-append-drop}
use Rattle.dts_resolver.specs.declared.extensions.Sort.{Sort}
use Rattle.dts_resolver.specs.declared.endings.Row.{Row}
use Rattle.dts_resolver.specs.declared.endings.Row.TheVariants.{Other}
use Rattle.search.proofs.CourseParts.{went_same, try_none}
use Rattle.search.proofs.CourseWalks.{walked_then, walked_paths}
use Rattle.dts_resolver.proofs.EndingRows.{columns_of}

module _ (mask : ℕ) (stem : Path) where
  pub row_none : row_trials mask stem [] ≡ []
  unfolding row_trials
  row_none = refl

  row_more : (c : Column) (cs : List Column) (b : Bool) → has mask c.kind ≡ b → row_trials mask stem (c ∷ cs) ≡ cond b ((stem ++ c.suffix) ∷ row_trials mask stem cs) (row_trials mask stem cs)
  unfolding row_trials
  row_more c cs b e = ap (λ x. cond x ((stem ++ c.suffix) ∷ row_trials mask stem cs) (row_trials mask stem cs)) e

  pub row_allowed : (c : Column) → has mask c.kind ≡ true → row_trials mask stem (c ∷ []) ≡ (stem ++ c.suffix) ∷ []
  row_allowed c e = row_more c [] true e ∙ ap (λ ps. (stem ++ c.suffix) ∷ ps) row_none

  pub row_barred : (c : Column) → has mask c.kind ≡ false → row_trials mask stem (c ∷ []) ≡ []
  row_barred c e = row_more c [] false e ∙ row_none

  pub row_both : (cs ds : List Column) → row_trials mask stem (cs ++ ds) ≡ row_trials mask stem cs ++ row_trials mask stem ds
  row_both [] ds = sym (ap (λ ps. ps ++ row_trials mask stem ds) row_none)
  row_both (c ∷ cs) ds = elim (cases_Bool (has mask c.kind)) [
    | inl e ↦ row_more c (cs ++ ds) true e ∙ ap (λ ps. (stem ++ c.suffix) ∷ ps) (row_both cs ds) ∙ sym (ap (λ ps. ps ++ row_trials mask stem ds) (row_more c cs true e))
    | inr e ↦ row_more c (cs ++ ds) false e ∙ row_both cs ds ∙ sym (ap (λ ps. ps ++ row_trials mask stem ds) (row_more c cs false e))
  ]

-- a part that tries the same paths goes alike
pub went_paths : (l : Limits) (t : Tree) (ps rs : List Path) (qs : Trail) (c : Course) (qs' : Trail) → ps ≡ rs → Went l t (try_all ps) qs c qs' → Went l t (try_all rs) qs c qs'
went_paths l t ps rs qs c qs' e h = went_same l t (try_all ps) (try_all rs) qs c qs' (λ s. ap (λ xs. try_all xs s) e) h

-- no paths, nothing found
pub went_nowhere : (l : Limits) (t : Tree) (ps : List Path) (qs : Trail) → ps ≡ [] → Went l t (try_all ps) qs went_on qs
unfolding Went
went_nowhere l t ps qs e = λ s. ap (λ xs. run l t (try_all xs s) qs) e ∙ ap (λ x. run l t x qs) (try_none s)

-- the trials of an ending, by whether there is one
pub ending_none : (mask : ℕ) (stem : Path) (e : List ℕ) → eqb (length e) 0 ≡ true → ending_trials mask stem e ≡ []
ending_none mask stem [] h = refl
ending_none mask stem (b ∷ bs) h = absurd (eqb_false_suc bs h)
  where
    eqb_false_suc : (xs : List ℕ) → eqb (length (b ∷ xs)) 0 ≡ true → ⊥
    eqb_false_suc xs h = omega (arith, eqb-true (length (b ∷ xs)) 0 h)

pub ending_row : (mask : ℕ) (stem : Path) (e : List ℕ) → eqb (length e) 0 ≡ false → ending_trials mask stem e ≡ row_trials mask stem (columns e)
ending_row mask stem [] h = absurd (eqb-false 0 0 h refl)
ending_row mask stem (b ∷ bs) h = refl

-- the trials of the file step, with stem and ending as they were found
pub file_trials_lem : (mask : ℕ) (p stem ending : Path) → stem ≡ stem_of p → ending ≡ ending_of p → ending_trials mask stem ending ++ row_trials mask p plain_row ≡ file_trials mask p
unfolding file_trials
file_trials_lem mask p stem ending a b = ap (λ x. ending_trials mask x ending ++ row_trials mask p plain_row) a ∙ ap (λ x. ending_trials mask (stem_of p) x ++ row_trials mask p plain_row) b

-- A row of the table up to a place and the column there. The column is tried in the memory and store that those before
-- it left, where the tree is the same.
module _ (tree tree' : Tree) (mask : ℕ) (same : tree' ≡ tree) (stem : Path)
    (row : List (Sort × Bor (List ℕ))) (i : ℕ) (d : Sort × Bor (List ℕ)) (inside : i < length row) (a b c : InMemory) (grew : Grew a b)
    (before : Walked tree a b (try_all (row_trials mask stem (map named_column (take i row)))) went_on) (o : Course)
    (here : Walked tree' b c (try_all (row_trials mask stem (named_column (get_or row i d) ∷ []))) o) where
  pub row_onward : Walked tree a c (try_all (row_trials mask stem (map named_column (take (i + 1) row)))) o
  row_onward =
      let first = map named_column (take i row) in
      let column = named_column (get_or row i d) ∷ [] in
      walked_paths tree a c _ _ o
      (sym (row_both mask stem first column) ∙ ap (row_trials mask stem) (sym (map-append named_column (take i row) (get_or row i d ∷ []))) ∙ ap (λ xs. row_trials mask stem (map named_column xs)) (sym (take_more row i d inside)))
      (walked_then tree a b (row_trials mask stem first) (row_trials mask stem column) c tree' o grew same before here)

pub row_whole : (mask : ℕ) (stem : Path) (row : List (Sort × Bor (List ℕ))) (n : ℕ) → row_trials mask stem (map named_column (take n row)) ++ row_trials mask stem (map named_column (drop n row)) ≡ row_trials mask stem (map named_column row)
row_whole mask stem row n =
    sym (row_both mask stem (map named_column (take n row)) (map named_column (drop n row)))
    ∙ ap (row_trials mask stem) (sym (map-append named_column (take n row) (drop n row)))
    ∙ ap (λ xs. row_trials mask stem (map named_column xs)) (take-append-drop n row)

-- the row of an ending that the code found, and the one column of an ending that the table does not name
pub row_found : (mask : ℕ) (stem e : Path) (row : Row) → row ≡ row_of e → row_trials mask stem (columns_in row e) ≡ row_trials mask stem (columns e)
row_found mask stem e row is = ap (λ r. row_trials mask stem (columns_in r e)) is ∙ ap (row_trials mask stem) (columns_of e)

pub row_of_others : (mask : ℕ) (stem e : Path) (row : Row) → row ≡ Other → row_trials mask stem (other_row e) ≡ row_trials mask stem (columns_in row e)
unfolding columns_in
row_of_others mask stem e row is = ap (λ r. row_trials mask stem (columns_in r e)) (sym is)
