-- A list that bytes are added to one by one.
use Rattle.std.proofs.Common.{◌≡◌, ℕ, ◌+◌, Bool, true, cond, List, [], ◌∷◌, ◌++◌, length, drop, sym, refl, ap, ◌∙◌, append_assoc, append-nil, arith}
use Rattle.std.proofs.lemmas.List.{length-append, drop-drop}
use Rattle.list.specs.declared.List as lent
use Rattle.list.specs.Held.{held, free, capacity}

-- These bytes were added to a list.
pub record Appended (bytes : List ℕ) (old new : lent.List ℕ) : Type 0 where
  pub holds : held new ≡ held old ++ bytes
  pub counted : new.len ≡ old.len + length bytes
  pub behind : free new ≡ drop (length bytes) (free old)
  pub room : capacity new ≡ capacity old

pub appended_none : (l : lent.List ℕ) → Appended [] l l
appended_none l = record { holds = sym (append-nil (held l)); counted = omega arith; behind = refl; room = refl }

-- One byte more that fits.
pub appended_more : (bytes : List ℕ) (x : ℕ) (old l new : lent.List ℕ) (ok : Bool) → Appended bytes old l → ok ≡ true →
    held new ≡ cond ok (held l ++ x ∷ []) (held l) → free new ≡ cond ok (drop 1 (free l)) (free l) → new.len ≡ cond ok (l.len + 1) l.len → capacity new ≡ capacity l → Appended (bytes ++ x ∷ []) old new
appended_more bytes x old l new ok a e h k n r =
    let h' : held new ≡ held l ++ x ∷ [] = rw e at h in
    let k' : free new ≡ drop 1 (free l) = rw e at k in
    let n' : new.len ≡ l.len + 1 = rw e at n in
    record {
      holds = h' ∙ ap (λ b. b ++ x ∷ []) a.holds ∙ append_assoc (held old) bytes (x ∷ []);
      counted = omega (arith, a.counted, n', length-append bytes (x ∷ []));
      behind = k' ∙ ap (drop 1) a.behind ∙ drop-drop 1 (length bytes) (free old) ∙ ap (λ n. drop n (free old)) (sym (length-append bytes (x ∷ [])));
      room = r ∙ a.room;
    }
