-- What noting a question does to a trail.
use Rattle.std.proofs.Common.{◌≡◌, ℕ, true, false, cond, ◌⊎◌, [], ◌∷◌, ◌++◌, sym, refl, ap, ◌∙◌, subst, inl, inr, arith}
use Rattle.std.proofs.lemmas.Slice.Eq.{bytes_eq-Decides}
use Rattle.std.proofs.lemmas.Bool.{cases_Bool, or_cases, both_ways}
use Rattle.search.specs.Search.{Question, kind_asked, manifest_at, same_question, Trail, on_trail, Limits, room, full, noted, note}

-- each question of a trail
abbrev pub Each : (Question → Type 0) → Trail → Type 0
Each P [] = Unit {0}
Each P (q ∷ qs) = P q × Each P qs

pub each_front : (P : Question → Type 0) (qs : Trail) (q : Question) → Each P (qs ++ q ∷ []) → Each P qs
each_front P [] q h = tt
each_front P (x ∷ qs) q h = (h.0, each_front P qs q h.1)

each_last : (P : Question → Type 0) (qs : Trail) (q : Question) → Each P (qs ++ q ∷ []) → P q
each_last P [] q h = h.0
each_last P (x ∷ qs) q h = each_last P qs q h.1

no_tests : false ≡ true → ⊥
no_tests e = both_ways false refl e

pub is_same : (x q : Question) → same_question x q ≡ true → x ≡ q
is_same (kind_asked p) (kind_asked r) e = ap kind_asked ((bytes_eq-Decides p r).0 e)
is_same (kind_asked p) (manifest_at r) e = absurd (no_tests e)
is_same (manifest_at p) (kind_asked r) e = absurd (no_tests e)
is_same (manifest_at p) (manifest_at r) e = ap manifest_at ((bytes_eq-Decides p r).0 e)

-- what holds of each question of a trail holds of one that is on it
each_at : (P : Question → Type 0) (qs : Trail) (q : Question) → on_trail qs q ≡ true → Each P qs → P q
unfolding on_trail
each_at P [] q e h = absurd (no_tests e)
each_at P (x ∷ qs) q e h = elim (or_cases (same_question x q) (on_trail qs q) e) [
  | inl same ↦ subst P (is_same x q same) h.0
  | inr later ↦ each_at P qs q later h.1
]

not_full : {qs : Trail} → full ≡ noted qs → ⊥
not_full e = let z : ◌≡◌ {A = ℕ} 0 1 = cc in omega arith

trail_of : {qs qs' : Trail} → noted qs ≡ noted qs' → qs ≡ qs'
trail_of e = cc

-- the trail after a question that was noted: as it was with the question on it, or with the question behind
pub noted_is : (l : Limits) (qs : Trail) (q : Question) (qs' : Trail) → note l qs q ≡ noted qs' → ((on_trail qs q ≡ true) × (qs' ≡ qs)) ⊎ (qs' ≡ qs ++ q ∷ [])
unfolding note
noted_is l qs q qs' e = elim (cases_Bool (on_trail qs q)) [
  | inl there ↦ inl (there, sym (trail_of (sym (ap (λ b. cond b (noted qs) (cond (room l qs q) (noted (qs ++ q ∷ [])) full)) there) ∙ e)))
  | inr new ↦
      let e' = sym (ap (λ b. cond b (noted qs) (cond (room l qs q) (noted (qs ++ q ∷ [])) full)) new) ∙ e in
      elim (cases_Bool (room l qs q)) [
        | inl fits ↦ inr (sym (trail_of (sym (ap (λ b. cond b (noted (qs ++ q ∷ [])) full) fits) ∙ e')))
        | inr no_room ↦ absurd (not_full (sym (ap (λ b. cond b (noted (qs ++ q ∷ [])) full) no_room) ∙ e'))
      ]
]

module _ (P : Question → Type 0) (l : Limits) (qs : Trail) (q : Question) (qs' : Trail) (e : note l qs q ≡ noted qs') where
  pub each_noted : Each P qs' → P q
  each_noted h = elim (noted_is l qs q qs' e) [
    | inl old ↦ each_at P qs q old.0 (subst (Each P) old.1 h)
    | inr new ↦ each_last P qs q (subst (Each P) new h)
  ]

  pub each_before : Each P qs' → Each P qs
  each_before h = elim (noted_is l qs q qs' e) [
    | inl old ↦ subst (Each P) old.1 h
    | inr new ↦ each_front P qs q (subst (Each P) new h)
  ]
