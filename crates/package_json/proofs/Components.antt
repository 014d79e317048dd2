-- Components of a target, read byte by byte and cut at the slashes.
use Rattle.std.proofs.Common.{◌≡◌, ℕ, Bool, true, false, cond, not, ◌&&◌, ◌⊎◌, eqb, List, [], ◌∷◌, map, Some, None, Option, sym, refl, ap, ◌∙◌, inl, inr, MatchOption}
use Rattle.std.specs.Str.{bytes_eq}
use Rattle.std.specs.Option.{option_eq}
use Rattle.std.proofs.lemmas.Bool.{true≢false, false≢true, eqb-true}
use Rattle.path.specs.Path.{stays, goes_up, proper, every, onto, split}
use Rattle.package_json.specs.Plain.{small, modules, is_component, is_plain_byte, all_plain, plain_rest, plain_target}
use Rattle.package_json.specs.Component.{completed}
use Rattle.package_json.specs.declared.plain.Part.{Part}
use Rattle.package_json.specs.declared.plain.Part.TheVariants as part

-- Behind a byte that is no dot, node_modules alone is no component.
pub no_dot_first : (b : ℕ) (rest : List ℕ) → eqb b 46 ≡ false → is_component (b ∷ rest) ≡ not (bytes_eq (map small (b ∷ rest)) modules)
unfolding is_component proper stays goes_up
no_dot_first b rest h = rw h refl

-- the words of dots, the empty one with them
pub only_dots : (p : Part) → (p ≡ part.Empty) ⊎ ((p ≡ part.OneDot) ⊎ (p ≡ part.TwoDots)) → completed p [] ≡ false
unfolding is_component proper stays goes_up
only_dots p (inl e) = rw e refl
only_dots p (inr (inl e)) = rw e refl
only_dots p (inr (inr e)) = rw e refl

and_true : (a : Bool) → (a && true) ≡ a
and_true true = refl
and_true false = refl

and_false : (a : Bool) → (a && false) ≡ false
and_false true = refl
and_false false = refl

and_assoc : (a b c : Bool) → ((a && b) && c) ≡ (a && (b && c))
and_assoc true b c = refl
and_assoc false b c = refl

-- Pieces are components, the first of them behind what was read of it.
unfoldable pub first_by : Part → List (List ℕ) → Bool
first_by p [] = true
first_by p (c ∷ cs) = completed p c && every is_component cs

-- what is left of a target, behind what was read of a component
unfoldable pub plain_by : Part → List ℕ → Bool
plain_by p t = first_by p (split t) && all_plain t

all_pieces : (cs : List (List ℕ)) → first_by part.Empty cs ≡ every is_component cs
unfolding first_by every
all_pieces [] = refl
all_pieces (c ∷ cs) = refl

pub plain_start : (t : List ℕ) → plain_by part.Empty t ≡ plain_rest t
unfolding plain_by
plain_start t = ap (λ r. r && all_plain t) (all_pieces (split t))

pub plain_end : (p : Part) → plain_by p [] ≡ completed p []
unfolding plain_by first_by split every all_plain
plain_end p = and_true (completed p [] && true) ∙ and_true (completed p [])

pub plain_bad : (p : Part) (b : ℕ) (t : List ℕ) → is_plain_byte b ≡ false → plain_by p (b ∷ t) ≡ false
unfolding plain_by all_plain
plain_bad p b t h = ap (λ r. first_by p (split (b ∷ t)) && (r && all_plain t)) h ∙ and_false (first_by p (split (b ∷ t)))

pub plain_slash : (p : Part) (b : ℕ) (t : List ℕ) → b ≡ 47 → plain_by p (b ∷ t) ≡ (completed p [] && plain_rest t)
unfolding plain_by first_by split every all_plain
plain_slash p b t h = ap (λ x. plain_by p (x ∷ t)) h ∙ and_assoc (completed p []) (every is_component (split t)) (all_plain t)

module _ (p q : Part) (b : ℕ) (more : (rest : List ℕ) → completed q rest ≡ completed p (b ∷ rest)) where
  with_byte : (c : List ℕ) (cs : List (List ℕ)) → first_by p (onto b (c ∷ cs)) ≡ first_by q (c ∷ cs)
  unfolding first_by onto
  with_byte c cs = ap (λ r. r && every is_component cs) (sym (more c))

  with_bytes : (x : ℕ) (cs : List (List ℕ)) → first_by p (onto b (onto x cs)) ≡ first_by q (onto x cs)
  unfolding onto
  with_bytes x [] = with_byte (x ∷ []) []
  with_bytes x (c ∷ cs) = with_byte (x ∷ c) cs

  -- there is a first piece
  with_first : (t : List ℕ) → first_by p (onto b (split t)) ≡ first_by q (split t)
  unfolding split
  with_first [] = with_byte [] []
  with_first (x ∷ t) = by (eqb x 47)
    where
      by : (s : Bool) → first_by p (onto b (cond s ([] ∷ split t) (onto x (split t)))) ≡ first_by q (cond s ([] ∷ split t) (onto x (split t)))
      by true = with_byte [] (split t)
      by false = with_bytes x (split t)

  pub plain_byte : (t : List ℕ) → is_plain_byte b ≡ true → eqb b 47 ≡ false → plain_by p (b ∷ t) ≡ plain_by q t
  unfolding plain_by split all_plain
  plain_byte t ok other =
      ap (λ s. first_by p (cond s ([] ∷ split t) (onto b (split t))) && (is_plain_byte b && all_plain t)) other
      ∙ ap (λ r. first_by p (onto b (split t)) && (r && all_plain t)) ok
      ∙ ap (λ r. r && all_plain t) (with_first t)

-- What comes next is this byte, or it is not.
abbrev pub Other : ℕ → List ℕ → List ℕ → Type 0
Other b s t = (s ≡ []) ⊎ ((x : ℕ) × (s ≡ x ∷ t) × (eqb x b ≡ false))

module _ (b : ℕ) (s t : List ℕ) where
  pub comes_next : (o : Option ℕ) (r : Bool) → MatchOption o ((s ≡ []) × (t ≡ [])) (λ x. s ≡ x ∷ t) → r ≡ not (option_eq eqb o (Some b)) → r ≡ false → s ≡ b ∷ t
  comes_next None r told e f = absurd (true≢false (sym e ∙ f))
  comes_next (Some x) r told e f = told ∙ ap (λ y. y ∷ t) (eqb-true x b (not_false (eqb x b) (sym e ∙ f)))
    where
      not_false : (y : Bool) → not y ≡ false → y ≡ true
      not_false true h = refl
      not_false false h = absurd (true≢false h)

  pub comes_other : (o : Option ℕ) (r : Bool) → MatchOption o ((s ≡ []) × (t ≡ [])) (λ x. s ≡ x ∷ t) → r ≡ not (option_eq eqb o (Some b)) → r ≡ true → Other b s t
  comes_other None r told e f = inl told.0
  comes_other (Some x) r told e f = inr (x, told, not_true (eqb x b) (sym e ∙ f))
    where
      not_true : (y : Bool) → not y ≡ true → y ≡ false
      not_true true h = absurd (false≢true h)
      not_true false h = refl

-- a target by its first two bytes
module _ (t u : List ℕ) where
  pub target_first : Other 46 t u → plain_target t ≡ false
  unfolding plain_target
  target_first (inl e) = ap plain_target e
  target_first (inr (x, e, n)) = ap plain_target e ∙ go u
    where
      go : (v : List ℕ) → plain_target (x ∷ v) ≡ false
      go [] = refl
      go (y ∷ v) = ap (λ r. (r && eqb y 47) && plain_rest v) n

  module _ (dot : t ≡ 46 ∷ u) (v : List ℕ) where
    pub target_second : Other 47 u v → plain_target t ≡ false
    unfolding plain_target
    target_second (inl e) = ap plain_target (dot ∙ ap (λ x. 46 ∷ x) e)
    target_second (inr (x, e, n)) = ap plain_target (dot ∙ ap (λ y. 46 ∷ y) e) ∙ ap (λ r. r && plain_rest v) n

    pub target_both : u ≡ 47 ∷ v → plain_target t ≡ plain_rest v
    unfolding plain_target
    target_both e = ap plain_target (dot ∙ ap (λ y. 46 ∷ y) e)
