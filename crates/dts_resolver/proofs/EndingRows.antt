-- Laws of endings and of the rows of the table.
use Rattle.std.proofs.Common.{◌≡◌, ℕ, ◌+◌, ◌-◌, ◌<◌, ◌≤◌, Bool, true, false, cond, ◌||◌, eqb, ltb, List, [], ◌∷◌, length, get_or, take, drop, codes, sym, refl, ap, ◌∙◌, arith}
use Rattle.std.specs.Str.{bytes_eq}
use Rattle.std.proofs.lemmas.Slice.Eq.{bytes_eq-Decides}
use Rattle.std.proofs.lemmas.List.{drop_more, drop_all, length-drop}
use Rattle.std.proofs.lemmas.Bool.{cond-true, cond-false, eq-eqb, ne_eqb, lt-ltb, le-ltb, or_from as or_false}
use Rattle.std.proofs.lemmas.Bool.Decides.{same_from_decides, Decides-like}
use Rattle.search.specs.Search.{ends_with}
use Rattle.dts_resolver.specs.Endings.{or_from, from_last_dot, ending_of, stem_of, columns, module_row, common_js_row, jsx_row, plain_row, other_row}
use Rattle.dts_resolver.specs.Rows.{row_of, columns_in}
use Rattle.dts_resolver.specs.declared.endings.Row.{Row}
use Rattle.dts_resolver.specs.declared.endings.Row.TheVariants.{Module, CommonJs, Jsx, Plain, Other}

-- what `==` and `ends_with` tell of bytes
abbrev pub Same : List ℕ → List ℕ → Bool → Type 0
Same xs ys r = r ≡ bytes_eq xs ys

pub same_told : (xs ys : List ℕ) (r : Bool) → Same xs ys r → bytes_eq xs ys ≡ r
same_told xs ys r h = sym h

pub same_is : (xs ys : List ℕ) → Same xs ys true → xs ≡ ys
same_is xs ys h = (bytes_eq-Decides xs ys).0 (sym h)

pub ends_told : (text tail : List ℕ) (r : Bool) → Same tail (drop (length text - length tail) text) r → ends_with text tail ≡ r
unfolding ends_with
ends_told text tail r h =
    let end = drop (length text - length tail) text in
    sym (h ∙ same_from_decides (bytes_eq tail end) (bytes_eq end tail) (Decides-like (bytes_eq tail end) sym sym (bytes_eq-Decides tail end)) (bytes_eq-Decides end tail))

-- the first of two texts that is not empty
abbrev pub or_else : List ℕ → List ℕ → List ℕ
or_else [] ys = ys
or_else (x ∷ xs) ys = x ∷ xs

pub or_nothing : (xs ys : List ℕ) → ys ≡ [] → or_else xs ys ≡ xs
or_nothing [] ys e = e
or_nothing (x ∷ xs) ys e = refl

dot_first : (xs bs ys : List ℕ) (b : ℕ) → b ≡ 46 → or_else (or_from xs b bs) ys ≡ or_else xs (b ∷ bs)
dot_first [] bs ys b e = ap (λ zs. or_else zs ys) (cond-true (eqb b 46) (b ∷ bs) [] (eq-eqb b 46 e))
dot_first (x ∷ xs) bs ys b e = refl

other_first : (xs bs ys : List ℕ) (b : ℕ) → (b ≡ 46 → ⊥) → or_else (or_from xs b bs) ys ≡ or_else xs ys
other_first [] bs ys b ne = ap (λ zs. or_else zs ys) (cond-false (eqb b 46) (b ∷ bs) [] (ne_eqb b 46 ne))
other_first (x ∷ xs) bs ys b ne = refl

-- a dot at `i`, another byte there, and the end of the path
pub dot_at : (p ys : List ℕ) (i : ℕ) → i < length p → get_or p i 0 ≡ 46 → or_else (from_last_dot (drop i p)) ys ≡ or_else (from_last_dot (drop (i + 1) p)) (drop i p)
unfolding from_last_dot
dot_at p ys i l e =
    let k = drop_more p i 0 l in
    ap (λ xs. or_else (from_last_dot xs) ys) k ∙ dot_first (from_last_dot (drop (i + 1) p)) (drop (i + 1) p) ys (get_or p i 0) e
    ∙ ap (or_else (from_last_dot (drop (i + 1) p))) (sym k)

pub dot_past : (p ys : List ℕ) (i : ℕ) → i < length p → (get_or p i 0 ≡ 46 → ⊥) → or_else (from_last_dot (drop i p)) ys ≡ or_else (from_last_dot (drop (i + 1) p)) ys
unfolding from_last_dot
dot_past p ys i l ne =
    ap (λ xs. or_else (from_last_dot xs) ys) (drop_more p i 0 l) ∙ other_first (from_last_dot (drop (i + 1) p)) (drop (i + 1) p) ys (get_or p i 0) ne

pub dot_none : (p ys : List ℕ) (i : ℕ) → length p ≤ i → or_else (from_last_dot (drop i p)) ys ≡ ys
unfolding from_last_dot
dot_none p ys i l = ap (λ xs. or_else (from_last_dot xs) ys) (drop_all i p l)

-- the four sorts of endings, in their order
module _ (p : List ℕ) where
  pub ending_first : Same (codes ".d.ts") (drop (length p - 5) p) true → drop (length p - 5) p ≡ ending_of p
  unfolding ending_of
  ending_first h = sym (same_is (codes ".d.ts") _ h) ∙ sym (cond-true _ _ _ (ends_told p (codes ".d.ts") true h))

  pub ending_second : Same (codes ".d.ts") (drop (length p - 5) p) false → Same (codes ".d.mts") (drop (length p - 6) p) true → drop (length p - 6) p ≡ ending_of p
  unfolding ending_of
  ending_second no₁ h =
      sym (same_is (codes ".d.mts") _ h)
      ∙ sym (cond-false _ _ _ (ends_told p (codes ".d.ts") false no₁) ∙ cond-true _ _ _ (ends_told p (codes ".d.mts") true h))

  pub ending_third : Same (codes ".d.ts") (drop (length p - 5) p) false → Same (codes ".d.mts") (drop (length p - 6) p) false →
      Same (codes ".d.cts") (drop (length p - 6) p) true → drop (length p - 6) p ≡ ending_of p
  unfolding ending_of
  ending_third no₁ no₂ h =
      sym (same_is (codes ".d.cts") _ h)
      ∙ sym (cond-false _ _ _ (ends_told p (codes ".d.ts") false no₁) ∙ cond-false _ _ _ (ends_told p (codes ".d.mts") false no₂)
      ∙ cond-true _ _ _ (ends_told p (codes ".d.cts") true h))

  ending_else : Same (codes ".d.ts") (drop (length p - 5) p) false → Same (codes ".d.mts") (drop (length p - 6) p) false →
      Same (codes ".d.cts") (drop (length p - 6) p) false → ending_of p ≡ cond (ltb (length (from_last_dot p)) 10) (from_last_dot p) []
  unfolding ending_of
  ending_else no₁ no₂ no₃ =
      cond-false _ _ _ (ends_told p (codes ".d.ts") false no₁) ∙ cond-false _ _ _ (ends_told p (codes ".d.mts") false no₂)
      ∙ cond-false _ _ _ (ends_told p (codes ".d.cts") false no₃)

  pub ending_dot : (dot : ℕ) → Same (codes ".d.ts") (drop (length p - 5) p) false → Same (codes ".d.mts") (drop (length p - 6) p) false →
      Same (codes ".d.cts") (drop (length p - 6) p) false → drop dot p ≡ from_last_dot p → length p - dot < 10 → drop dot p ≡ ending_of p
  ending_dot dot no₁ no₂ no₃ is short =
      is ∙ sym (ending_else no₁ no₂ no₃ ∙ cond-true _ _ _ (lt-ltb (length (from_last_dot p)) 10 (omega (arith, ap length is, length-drop dot p))))

  pub ending_none : (dot : ℕ) → Same (codes ".d.ts") (drop (length p - 5) p) false → Same (codes ".d.mts") (drop (length p - 6) p) false →
      Same (codes ".d.cts") (drop (length p - 6) p) false → drop dot p ≡ from_last_dot p → 10 ≤ length p - dot → drop (length p) p ≡ ending_of p
  ending_none dot no₁ no₂ no₃ is long =
      drop_all (length p) p (omega arith)
      ∙ sym (ending_else no₁ no₂ no₃ ∙ cond-false _ _ _ (le-ltb (length (from_last_dot p)) 10 (omega (arith, ap length is, length-drop dot p))))

  -- what comes before the ending
  pub stem_is : (at : ℕ) → at ≤ length p → drop at p ≡ ending_of p → take at p ≡ stem_of p
  unfolding stem_of
  stem_is at l e = ap (λ n. take n p) (omega (arith, ap length e, length-drop at p))

-- an ending that the table names, and one that it does not
pub row_named : (e s : List ℕ) → Same e s true → row_of s ≡ row_of e
row_named e s h = ap row_of (sym (same_is e s h))

pub row_other : (e : List ℕ) →
    Same e (codes ".mjs") false → Same e (codes ".mts") false → Same e (codes ".d.mts") false →
    Same e (codes ".cjs") false → Same e (codes ".cts") false → Same e (codes ".d.cts") false →
    Same e (codes ".tsx") false → Same e (codes ".jsx") false →
    Same e (codes ".ts") false → Same e (codes ".d.ts") false → Same e (codes ".js") false → Other ≡ row_of e
unfolding row_of
row_other e m₁ m₂ m₃ c₁ c₂ c₃ j₁ j₂ p₁ p₂ p₃ =
    let no : (s : List ℕ) → Same e s false → bytes_eq e s ≡ false = λ s h. same_told e s false h in
    sym
    (cond-false _ _ _ (or_false _ _ (no _ m₁) (or_false _ _ (no _ m₂) (no _ m₃)))
    ∙ cond-false _ _ _ (or_false _ _ (no _ c₁) (or_false _ _ (no _ c₂) (no _ c₃)))
    ∙ cond-false _ _ _ (or_false _ _ (no _ j₁) (no _ j₂))
    ∙ cond-false _ _ _ (or_false _ _ (no _ p₁) (or_false _ _ (no _ p₂) (no _ p₃))))

-- no row has more than five columns
pub five_columns : (row : Row) (e : List ℕ) → length (columns_in row e) ≤ 5
unfolding columns_in
five_columns Module e = omega arith
five_columns CommonJs e = omega arith
five_columns Jsx e = omega arith
five_columns Plain e = omega arith
five_columns Other e = omega arith

by_tests : (e : List ℕ) (m c j p : Bool) → columns_in (cond m Module (cond c CommonJs (cond j Jsx (cond p Plain Other)))) e ≡ cond m module_row (cond c common_js_row (cond j jsx_row (cond p plain_row (other_row e))))
unfolding columns_in
by_tests e true c j p = refl
by_tests e false true j p = refl
by_tests e false false true p = refl
by_tests e false false false true = refl
by_tests e false false false false = refl

-- the columns of an ending's row
pub columns_of : (e : List ℕ) → columns_in (row_of e) e ≡ columns e
unfolding row_of columns
columns_of e =
    by_tests e (bytes_eq e (codes ".mjs") || (bytes_eq e (codes ".mts") || bytes_eq e (codes ".d.mts")))
    (bytes_eq e (codes ".cjs") || (bytes_eq e (codes ".cts") || bytes_eq e (codes ".d.cts")))
    (bytes_eq e (codes ".tsx") || bytes_eq e (codes ".jsx"))
    (bytes_eq e (codes ".ts") || (bytes_eq e (codes ".d.ts") || bytes_eq e (codes ".js")))
