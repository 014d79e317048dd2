-- New questions find room one after the other exactly if all of them, with the trail before them, keep to the limits.
use Rattle.std.proofs.Common.{◌≡◌, ◌+◌, true, [], ◌∷◌, ◌++◌, length, sym, refl, ap, ◌∙◌, subst, append_assoc, arith, ltb, leb}
use Rattle.std.proofs.lemmas.Bool.{and_parts, and_from, ltb-true, leb-true, lt-ltb, le-leb}
use Rattle.std.proofs.lemmas.List.{length-append}
use Rattle.search.specs.Search.{Question, path_of, Trail, path_bytes, Limits, room}
use Rattle.search.specs.Needs.{all_fit}
use Rattle.search.specs.Laws.{Fits, FitByTotals}

bytes_of_both : (a b : Trail) → path_bytes (a ++ b) ≡ path_bytes a ++ path_bytes b
bytes_of_both [] b = refl
bytes_of_both (x ∷ a) b = ap (λ bs. path_of x ++ bs) (bytes_of_both a b) ∙ sym (append_assoc (path_of x) (path_bytes a) (path_bytes b))

-- how many bytes the paths have, in three parts
three_parts : (qs : Trail) (q : Question) (new : Trail) → length (path_bytes (qs ++ q ∷ new)) ≡ length (path_bytes qs) + (length (path_of q) + length (path_bytes new))
three_parts qs q new =
    ap length (bytes_of_both qs (q ∷ new)) ∙ length-append (path_bytes qs) (path_of q ++ path_bytes new)
    ∙ ap (λ n. length (path_bytes qs) + n) (length-append (path_of q) (path_bytes new))

has_room : (l : Limits) (qs : Trail) (q : Question) (new : Trail) → Fits l (qs ++ q ∷ new) → room l qs q ≡ true
unfolding room
has_room l qs q new f =
    and_from _ _ (lt-ltb (length qs) l.steps (omega (arith, f.steps, length-append qs (q ∷ new))))
    (le-leb (length (path_bytes qs) + length (path_of q)) l.bytes (omega (arith, f.bytes, three_parts qs q new)))

one_fits : (l : Limits) (qs : Trail) (q : Question) → room l qs q ≡ true → Fits l (qs ++ q ∷ [])
unfolding room
one_fits l qs q e =
    let p = and_parts (ltb (length qs) l.steps) (leb (length (path_bytes qs) + length (path_of q)) l.bytes) e in
    record {
      steps = omega (arith, ltb-true (length qs) l.steps p.0, length-append qs (q ∷ []));
      bytes = omega (arith, leb-true (length (path_bytes qs) + length (path_of q)) l.bytes p.1, three_parts qs q []);
    }

then : (qs : Trail) (q : Question) (new : Trail) → (qs ++ q ∷ []) ++ new ≡ qs ++ q ∷ new
then qs q new = append_assoc qs (q ∷ []) new

fit : (l : Limits) (qs : Trail) (q : Question) (new : Trail) → all_fit l qs (q ∷ new) ≡ true → Fits l (qs ++ q ∷ new)
unfolding all_fit
fit l qs q [] e = one_fits l qs q (and_parts _ _ e).0
fit l qs q (r ∷ new) e = subst (Fits l) (then qs q (r ∷ new)) (fit l (qs ++ q ∷ []) r new (and_parts _ _ e).1)

fits : (l : Limits) (qs : Trail) (q : Question) (new : Trail) → Fits l (qs ++ q ∷ new) → all_fit l qs (q ∷ new) ≡ true
unfolding all_fit
fits l qs q [] f = and_from _ _ (has_room l qs q [] f) refl
fits l qs q (r ∷ new) f = and_from _ _ (has_room l qs q (r ∷ new) f) (fits l (qs ++ q ∷ []) r new (subst (Fits l) (sym (then qs q (r ∷ new))) f))

pub proved : FitByTotals
proved l qs q new = (fit l qs q new, fits l qs q new)
