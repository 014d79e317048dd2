-- Laws of joining: one piece after another, and that what is joined is normal and within the limit.
use Rattle.std.proofs.Common.{◌≡◌, ℕ, ◌+◌, ◌-◌, ◌<◌, ◌≤◌, Bool, true, false, cond, leb, ◌⊎◌, List, [], ◌∷◌, ◌++◌, length, get_or, take, drop, Some, None, Option, MatchOption, IfSome, Ok, Err, Result, OnOk, OnErr, is_ok, sym, refl, ap, ◌∙◌, inl, inr, ⊎_elim, arith}
use Rattle.std.proofs.lemmas.List.{take_all, length-append, drop_at, drop-drop, drop-append-le, append-nil, append_assoc}
use denote.Ref.{Bor}
use Rattle.std.specs.Option.{unwrap_or}
use Rattle.list.specs.declared.Full.{Full}
use Rattle.list.specs.declared.List as lent
use Rattle.list.specs.Held.{free, capacity}
use Rattle.list.proofs.Held.{kept_by}
use Rattle.std.proofs.lemmas.Bool.{both_ways, cases_Bool, cases_eq, cases_lt, leb-false, le-leb, lt-leb, cond-true, cond-false, and_parts, eq-eqb, ne_eqb}
use Rattle.path.specs.Path.{plain, stays, goes_up, proper, every, split, behind, written, components, normal, has_parent, parent_of, without_last, put, Outcome, names, nothing, too_long, within, walk, itself, seen_from, joining}
use Rattle.path.proofs.Cutting.{behind_split, behind_push, every_plain_split}
use Rattle.path.proofs.Normality.{written_components, normal_first, normal_proper, normal_written, plain_components, has_parent_longer, every_put, components_put, normal_put}

-- at `/`, the path without its last component is `/`
pub root_remains : (p : List ℕ) → normal p ≡ true → has_parent p ≡ false → p ≡ written (without_last (components p))
unfolding components written without_last
root_remains [] h k = absurd (omega (arith, (normal_first [] h).0))
root_remains (b ∷ []) h k = ap (λ x. x ∷ []) (normal_first (b ∷ []) h).1
root_remains (b ∷ (x ∷ xs)) h k = absurd (both_ways (has_parent (b ∷ (x ∷ xs))) k (has_parent_longer (b ∷ (x ∷ xs)) h (λ e. omega arith)))

-- the three kinds of pieces
-- the parent of a path, or the path where it has none, is written without its last component
pub above_or_root : (o : Option (Bor (List ℕ))) {r : Bor (List ℕ)} (q : Bor (List ℕ)) → normal q.now ≡ true → r ≡ unwrap_or o q →
    MatchOption o (has_parent q.now ≡ false) (λ s. (has_parent q.now ≡ true) × (s.now ≡ parent_of q.now)) → IfSome o (λ s. s.now ≡ take (length s.now) q.now) →
    take (length r.now) q.now ≡ written (without_last (components q.now))
unfolding parent_of
above_or_root (Some s) q h e told front = ap (λ x. take (length x.now) q.now) e ∙ sym front ∙ told.1
above_or_root None q h e told front = ap (λ x. take (length x.now) q.now) e ∙ take_all _ _ (omega arith) ∙ root_remains q.now h told

pub put_same : (cs : List (List ℕ)) (c : List ℕ) → stays c ≡ true → put cs c ≡ cs
unfolding put
put_same cs c s = cond-true (stays c) cs (cond (goes_up c) (without_last cs) (cs ++ c ∷ [])) s

pub put_up : (cs : List (List ℕ)) (c : List ℕ) → stays c ≡ false → goes_up c ≡ true → put cs c ≡ without_last cs
unfolding put
put_up cs c s u = cond-false (stays c) cs (cond (goes_up c) (without_last cs) (cs ++ c ∷ [])) s ∙ cond-true (goes_up c) (without_last cs) (cs ++ c ∷ []) u

pub put_last : (cs : List (List ℕ)) (c : List ℕ) → stays c ≡ false → goes_up c ≡ false → put cs c ≡ cs ++ c ∷ []
unfolding put
put_last cs c s u = cond-false (stays c) cs (cond (goes_up c) (without_last cs) (cs ++ c ∷ [])) s ∙ cond-false (goes_up c) (without_last cs) (cs ++ c ∷ []) u

-- a component behind a path: the slash of `/` is the one that it stands behind
behind_longer : (p : List ℕ) → normal p ≡ true → (length p ≡ 1 → ⊥) → behind (components p) ≡ p
unfolding components
behind_longer [] h l = absurd (omega (arith, (normal_first [] h).0))
behind_longer (b ∷ []) h l = absurd (l refl)
behind_longer (b ∷ (x ∷ xs)) h l = behind_split (x ∷ xs) ∙ ap (λ z. z ∷ x ∷ xs) (sym (normal_first (b ∷ (x ∷ xs)) h).1)

behind_root : (p : List ℕ) → length p ≡ 1 → behind (components p) ≡ []
unfolding components behind
behind_root [] l = absurd (omega arith)
behind_root (b ∷ []) l = refl
behind_root (b ∷ (x ∷ xs)) l = absurd (omega arith)

written_push : (cs : List (List ℕ)) (c : List ℕ) → written (cs ++ c ∷ []) ≡ behind cs ++ 47 ∷ c
unfolding written behind
written_push [] c = ap (λ xs. 47 ∷ xs) (append-nil c)
written_push (d ∷ ds) c = behind_push (d ∷ ds) c

-- a path with a slash behind it: `/` has one already
pub root_slash : (p : List ℕ) → normal p ≡ true → length p ≡ 1 → p ≡ behind (components p) ++ 47 ∷ []
root_slash [] h l = absurd (omega arith)
root_slash (b ∷ []) h l = ap (λ x. x ∷ []) (normal_first (b ∷ []) h).1 ∙ sym (ap (λ xs. xs ++ 47 ∷ []) (behind_root (b ∷ []) l))
root_slash (b ∷ (x ∷ xs)) h l = absurd (omega arith)

pub behind_slash : (new old : List ℕ) → normal old ≡ true → (length old ≡ 1 → ⊥) → new ≡ old ++ 47 ∷ [] → new ≡ behind (components old) ++ 47 ∷ []
behind_slash new old h l e = e ∙ ap (λ xs. xs ++ 47 ∷ []) (sym (behind_longer old h l))

-- a component behind that slash
pub component_put : (r : Result (Unit {0}) Full) (cs : List (List ℕ)) (c slashed new : List ℕ) → slashed ≡ behind cs ++ 47 ∷ [] →
    new ≡ cond (is_ok r) (slashed ++ c) slashed → OnOk r (new ≡ written (cs ++ c ∷ []))
component_put (Ok u) cs c slashed new e f = f ∙ ap (λ xs. xs ++ c) e ∙ append_assoc (behind cs) (47 ∷ []) c ∙ sym (written_push cs c)
component_put (Err u) cs c slashed new e f = tt

pub component_length : (cs : List (List ℕ)) (c : List ℕ) → length (written (cs ++ c ∷ [])) ≡ length (behind cs) + 1 + length c
component_length cs c = ap length (written_push cs c) ∙ omega (arith, length-append (behind cs) (47 ∷ c))

pub component_over : (r : Result (Unit {0}) Full) (cs : List (List ℕ)) (c slashed : List ℕ) (n size limit : ℕ) → slashed ≡ behind cs ++ 47 ∷ [] → length slashed ≡ n →
    is_ok r ≡ leb (n + length c) size → size ≡ limit → OnErr r (limit < length (written (cs ++ c ∷ [])))
component_over (Ok u) cs c slashed n size limit e k f same = tt
component_over (Err u) cs c slashed n size limit e k f same = omega (arith, component_length cs c, ap length e, length-append (behind cs) (47 ∷ []), leb-false (n + length c) size (sym f))

-- a component that is as long as the room behind a path has no room with its slash
pub component_full : (old c : List ℕ) (n limit : ℕ) → normal old ≡ true → (length old ≡ 1 → ⊥) → length old ≡ n → limit - n ≤ length c → limit < length (written (components old ++ c ∷ []))
component_full old c n limit h l k full = omega (arith, component_length (components old) c, ap length (behind_longer old h l))

-- what is the same from one place on is the same from a later one on
pub same_further : (k j : ℕ) (xs ys : List ℕ) → k ≤ j → drop k xs ≡ drop k ys → drop j xs ≡ drop j ys
same_further k j xs ys le e =
    let n : k + (j - k) ≡ j = omega arith in
    let at : (zs : List ℕ) → drop (j - k) (drop k zs) ≡ drop j zs = λ zs. drop-drop (j - k) k zs ∙ ap (λ i. drop i zs) n in
    sym (at xs) ∙ ap (drop (j - k)) e ∙ at ys

pub same_behind : (k : ℕ) (xs ys zs : List ℕ) → length xs ≡ length ys → drop k xs ≡ drop k ys → drop k (xs ++ zs) ≡ drop k (ys ++ zs)
same_behind k xs ys zs l e =
    ⊎_elim
    (λ lt. same_further (length xs) k (xs ++ zs) (ys ++ zs) (omega arith) (drop_at xs zs (length xs) refl ∙ sym (drop_at ys zs (length xs) (sym l))))
    (λ ge. drop-append-le k xs zs ge ∙ ap (λ ws. ws ++ zs) e ∙ sym (drop-append-le k ys zs (omega arith)))
    (cases_lt (length xs) k)

-- a path within the limit goes on, and one over it does not
pub within_fits : (limit : ℕ) (p : List ℕ) (next : Outcome) → length p ≤ limit → within limit p next ≡ next
unfolding within
within_fits limit p next le = cond-true _ _ _ (le-leb (length p) limit le)

pub within_over : (limit : ℕ) (p : List ℕ) (next : Outcome) → limit < length p → within limit p next ≡ too_long
unfolding within
within_over limit p next lt = cond-false _ _ _ (lt-leb (length p) limit lt)

cases_le : (m n : ℕ) → (m ≤ n) ⊎ (n < m)
cases_le m n = ⊎_elim (λ h. inr h) (λ h. inl h) (cases_lt n m)

pub within_names : (limit : ℕ) (p q : List ℕ) (next : Outcome) → within limit p next ≡ names q → (length p ≤ limit) × (next ≡ names q)
within_names limit p q next e =
    ⊎_elim
    (λ le. (le, sym (within_fits limit p next le) ∙ e))
    (λ lt. absurd (let z : ◌≡◌ {A = ℕ} 0 1 = cc (within_over limit p next lt, e) in omega arith))
    (cases_le (length p) limit)

-- a piece that is put on within the limit, and one that goes over it
pub walk_more : (limit : ℕ) (cs : List (List ℕ)) (c : List ℕ) (rest : List (List ℕ)) → length (written (put cs c)) ≤ limit →
    walk limit cs (c ∷ rest) ≡ walk limit (put cs c) rest
unfolding walk
walk_more limit cs c rest le = within_fits limit (written (put cs c)) (walk limit (put cs c) rest) le

pub walk_over : (limit : ℕ) (cs : List (List ℕ)) (c : List ℕ) (rest : List (List ℕ)) → limit < length (written (put cs c)) →
    walk limit cs (c ∷ rest) ≡ too_long
unfolding walk
walk_over limit cs c rest lt = within_over limit (written (put cs c)) (walk limit (put cs c) rest) lt

walk_none : (limit : ℕ) (cs : List (List ℕ)) → walk limit cs [] ≡ names (written cs)
unfolding walk
walk_none limit cs = refl

-- one turn: the piece that comes next was put on the path
module _ (limit : ℕ) (path after piece : List ℕ) (rest : List (List ℕ)) (h : normal path ≡ true) where
  pub turn_over : limit < length (written (put (components path) piece)) → walk limit (components path) (piece ∷ rest) ≡ too_long
  turn_over over = walk_over limit (components path) piece rest over

  pub turn_normal : plain piece ≡ true → after ≡ written (put (components path) piece) → normal after ≡ true
  turn_normal p told = ap normal told ∙ normal_put path piece h p

  pub turn_more : plain piece ≡ true → after ≡ written (put (components path) piece) → length after ≤ limit → walk limit (components after) rest ≡ walk limit (components path) (piece ∷ rest)
  turn_more p told fits =
      ap (λ cs. walk limit cs rest) (ap components told ∙ components_put path piece h p)
      ∙ sym (walk_more limit (components path) piece rest (omega (arith, ap length told)))

-- the last turn is done: the path is what the walk comes to
pub turned : (limit : ℕ) (path : List ℕ) → normal path ≡ true → walk limit (components path) [] ≡ names path
turned limit path h = walk_none limit (components path) ∙ ap names (written_components path h)

-- what neither the directory nor the pieces behind it can reach stays
pub walked_kept : (l l' last : lent.List ℕ) (room : List ℕ) (r : Bool) (n m : ℕ) → l.len ≡ 0 → l.items.now ≡ room →
    l'.len ≡ cond r (l.len + n) l.len → free l' ≡ cond r (drop n (free l)) (free l) → capacity l' ≡ capacity l →
    drop (l'.len + 1 + m) last.items.now ≡ drop (l'.len + 1 + m) l'.items.now → drop (n + 1 + m) last.items.now ≡ drop (n + 1 + m) room
walked_kept l l' last room r n m none same count rest size kept =
    let short : l'.len ≤ n = ⊎_elim (λ t. omega (arith, none, ap (λ b. cond b (l.len + n) l.len) t, count)) (λ f. omega (arith, none, ap (λ b. cond b (l.len + n) l.len) f, count)) (cases_Bool r) in
    same_further (l'.len + 1 + m) (n + 1 + m) last.items.now l'.items.now (omega (arith, short)) kept
    ∙ kept_by l l' r n (n + 1 + m) count rest size (omega (arith, none)) ∙ ap (drop (n + 1 + m)) same

pub walk_nothing : (limit : ℕ) (cs ss : List (List ℕ)) → walk limit cs ss ≡ nothing → ⊥
unfolding walk within
walk_nothing limit cs [] e = let z : ◌≡◌ {A = ℕ} 0 1 = cc in omega arith
walk_nothing limit cs (c ∷ rest) e =
    ⊎_elim
    (λ t. walk_nothing limit (put cs c) rest (sym (cond-true _ _ _ t) ∙ e))
    (λ t. let k : too_long ≡ nothing = sym (cond-false _ _ _ t) ∙ e in let z : ◌≡◌ {A = ℕ} 0 1 = cc in omega arith)
    (cases_Bool (leb (length (written (put cs c))) limit))

pub walked_nothing : (limit : ℕ) (d : List ℕ) (cs ss : List (List ℕ)) → within limit d (walk limit cs ss) ≡ nothing → ⊥
walked_nothing limit d cs ss e =
    ⊎_elim
    (λ le. walk_nothing limit cs ss (sym (within_fits limit d (walk limit cs ss) le) ∙ e))
    (λ lt. let k : too_long ≡ nothing = sym (within_over limit d (walk limit cs ss) lt) ∙ e in let z : ◌≡◌ {A = ℕ} 0 1 = cc in omega arith)
    (cases_le (length d) limit)

-- a walk from a normal path comes to a normal path, within the limit
normal_walk : (limit : ℕ) (cs ss : List (List ℕ)) (p : List ℕ) → every proper cs ≡ true → every plain cs ≡ true → every plain ss ≡ true →
    length (written cs) ≤ limit → walk limit cs ss ≡ names p → (normal p ≡ true) × (length p ≤ limit)
unfolding walk every
normal_walk limit cs [] p h k l le e =
    let same : written cs ≡ p = cc in
    (ap normal (sym same) ∙ normal_written cs h k, omega (arith, ap length same))
normal_walk limit cs (c ∷ rest) p h k l le e =
    let both = and_parts (plain c) (every plain rest) l in
    let next = within_names limit (written (put cs c)) p (walk limit (put cs c) rest) e in
    normal_walk limit (put cs c) rest p (every_put proper cs c h (λ t. t)) (every_put plain cs c k (λ _. both.0)) both.1 next.0 next.1

-- what joining comes to, by the first byte of the subpath
pub joining_no_directory : (limit : ℕ) (d s : List ℕ) → normal d ≡ false → joining limit d s ≡ nothing
unfolding joining
joining_no_directory limit d s h = cond-false _ _ _ h

joining_seen : (limit : ℕ) (d s : List ℕ) → normal d ≡ true → joining limit d s ≡ seen_from limit d s
unfolding joining
joining_seen limit d s h = cond-true _ _ _ h

joining_empty : (limit : ℕ) (d s : List ℕ) → normal d ≡ true → length s ≡ 0 → joining limit d s ≡ nothing
unfolding seen_from
joining_empty limit d [] h l = joining_seen limit d [] h
joining_empty limit d (b ∷ bs) h l = absurd (omega arith)

joining_relative : (limit : ℕ) (d s : List ℕ) → normal d ≡ true → 0 < length s → (get_or s 0 0 ≡ 47 → ⊥) →
    joining limit d s ≡ within limit d (walk limit (components d) (split s))
unfolding seen_from
joining_relative limit d [] h l e = absurd (omega arith)
joining_relative limit d (b ∷ bs) h l e = joining_seen limit d (b ∷ bs) h ∙ cond-false _ _ _ (ne_eqb b 47 e)

joining_absolute : (limit : ℕ) (d s : List ℕ) → normal d ≡ true → 0 < length s → get_or s 0 0 ≡ 47 → joining limit d s ≡ itself limit s
unfolding seen_from
joining_absolute limit d [] h l e = absurd (omega arith)
joining_absolute limit d (b ∷ bs) h l e = joining_seen limit d (b ∷ bs) h ∙ cond-true _ _ _ (eq-eqb b 47 e)

pub itself_not_normal : (limit : ℕ) (s : List ℕ) → normal s ≡ false → itself limit s ≡ nothing
itself_not_normal limit s k = cond-false _ _ _ k

pub itself_normal : (limit : ℕ) (s : List ℕ) → normal s ≡ true → itself limit s ≡ within limit s (names s)
itself_normal limit s k = cond-true _ _ _ k

-- the same by the byte that came first, or that none came
pub joining_none : (limit : ℕ) (d s : List ℕ) → normal d ≡ true → s ≡ [] → joining limit d s ≡ nothing
joining_none limit d s h e = joining_empty limit d s h (ap length e)

module _ (limit : ℕ) (d s next : List ℕ) (h : normal d ≡ true) where
  pub joining_slash : (b : ℕ) → s ≡ b ∷ next → b ≡ 47 → itself limit s ≡ joining limit d s
  joining_slash b e i =
      let some : 0 < length s = omega (arith, ap length e) in
      sym (joining_absolute limit d s h some (ap (λ t. get_or t 0 0) e ∙ i))

  pub joining_other : (b : ℕ) → s ≡ b ∷ next → (b ≡ 47 → ⊥) → within limit d (walk limit (components d) (split s)) ≡ joining limit d s
  joining_other b e n =
      let some : 0 < length s = omega (arith, ap length e) in
      sym (joining_relative limit d s h some (λ k. n (sym (ap (λ t. get_or t 0 0) e) ∙ k)))

-- what is joined is normal, and within the limit
pub joining_normal : (limit : ℕ) (d s p : List ℕ) → joining limit d s ≡ names p → (normal p ≡ true) × (length p ≤ limit)
joining_normal limit d s p e = ⊎_elim directory (λ h. other (joining_no_directory limit d s h)) (cases_Bool (normal d))
  where
    other : joining limit d s ≡ nothing → (normal p ≡ true) × (length p ≤ limit)
    other o = absurd (let z : ◌≡◌ {A = ℕ} 0 1 = cc (o, e) in omega arith)

    absolute : normal d ≡ true → 0 < length s → get_or s 0 0 ≡ 47 → normal s ≡ true → (normal p ≡ true) × (length p ≤ limit)
    absolute h l b k =
        let w = within_names limit s p (names s) (sym (joining_absolute limit d s h l b ∙ itself_normal limit s k) ∙ e) in
        let same : s ≡ p = cc w.1 in
        (ap normal (sym same) ∙ k, omega (arith, ap length same, w.0))

    relative : normal d ≡ true → 0 < length s → (get_or s 0 0 ≡ 47 → ⊥) → (normal p ≡ true) × (length p ≤ limit)
    relative h l b =
        let w = within_names limit d p (walk limit (components d) (split s)) (sym (joining_relative limit d s h l b) ∙ e) in
        normal_walk limit (components d) (split s) p (normal_proper d h) (plain_components d) (every_plain_split s)
        (omega (arith, ap length (written_components d h), w.0)) w.1

    slash : normal d ≡ true → 0 < length s → get_or s 0 0 ≡ 47 → (normal p ≡ true) × (length p ≤ limit)
    slash h l b = ⊎_elim (absolute h l b) (λ k. other (joining_absolute limit d s h l b ∙ itself_not_normal limit s k)) (cases_Bool (normal s))

    directory : normal d ≡ true → (normal p ≡ true) × (length p ≤ limit)
    directory h =
        ⊎_elim (λ l. ⊎_elim (slash h l) (relative h l) (cases_eq (get_or s 0 0) 47))
        (λ l. other (joining_empty limit d s h (omega arith))) (cases_lt 0 (length s))
