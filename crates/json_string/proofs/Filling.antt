-- A list over lent memory that is filled from its start: what it holds, and what stands behind it.
use Rattle.std.proofs.Common.{◌≡◌, ℕ, ◌+◌, ◌≤◌, Bool, true, cond, List, [], ◌++◌, length, take, drop, sym, refl, ap, ◌∙◌, arith}
use Rattle.std.proofs.lemmas.List.{length-append, take-append-drop, drop-drop, take_all, take-take}
use Rattle.list.specs.declared.List as lent
use Rattle.list.specs.Held.{held, free, capacity}

-- The list began empty over this memory, and now holds these bytes.
pub record Filled (bytes memory : List ℕ) (l : lent.List ℕ) : Type 0 where
  pub holds : held l ≡ bytes
  pub counted : l.len ≡ length bytes
  pub behind : free l ≡ drop (length bytes) memory
  pub room : capacity l ≡ length memory

pub filled_none : (memory : List ℕ) (l : lent.List ℕ) → l.len ≡ 0 → l.items.now ≡ memory → Filled [] memory l
filled_none memory l e i = record { holds = rw e refl; counted = e; behind = rw e i; room = ap length i }

-- More is added that fits.
pub filled_more : (bytes memory more : List ℕ) (l l' : lent.List ℕ) (ok : Bool) → Filled bytes memory l → ok ≡ true →
    held l' ≡ cond ok (held l ++ more) (held l) → free l' ≡ cond ok (drop (length more) (free l)) (free l) → l'.len ≡ cond ok (l.len + length more) l.len → capacity l' ≡ capacity l → Filled (bytes ++ more) memory l'
filled_more bytes memory more l l' ok f e h k n r =
    let h' : held l' ≡ held l ++ more = rw e at h in
    let k' : free l' ≡ drop (length more) (free l) = rw e at k in
    let n' : l'.len ≡ l.len + length more = rw e at n in
    record {
      holds = h' ∙ ap (λ b. b ++ more) f.holds;
      counted = omega (arith, f.counted, n', length-append bytes more);
      behind = k' ∙ ap (drop (length more)) f.behind ∙ drop-drop (length more) (length bytes) memory ∙ ap (λ n. drop n memory) (sym (length-append bytes more));
      room = r ∙ f.room;
    }

-- All of the memory.
pub filled_memory : {bytes memory : List ℕ} (l : lent.List ℕ) → Filled bytes memory l → l.items.now ≡ bytes ++ drop (length bytes) memory
filled_memory {bytes = bytes} l f = sym (take-append-drop l.len l.items.now) ∙ ap (λ b. b ++ free l) f.holds ∙ ap (λ r. bytes ++ r) f.behind

-- The same by how many were written of all that there was.
pub first_of_all : (bytes all memory : List ℕ) (n room : ℕ) → bytes ≡ take room all → n ≡ length bytes → n ≤ room → bytes ++ drop (length bytes) memory ≡ take n all ++ drop n memory
first_of_all bytes all memory n room e k h =
    let same : bytes ≡ take n all = sym (take_all n bytes (omega arith)) ∙ ap (take n) e ∙ take-take n room all h in
    ap (λ b. b ++ drop (length bytes) memory) same ∙ ap (λ m. take n all ++ drop m memory) (sym k)

-- an equation by the value between, which a tactic can then be asked for
pub through : {x y : List ℕ} (m : List ℕ) → x ≡ m → m ≡ y → x ≡ y
through m a b = a ∙ b
