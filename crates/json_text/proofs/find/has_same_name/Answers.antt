-- The decoded name is compared.
use Rattle.std.proofs.Common.{rules, None, Some, Option, Bool, false, ◌≡◌, MatchOption}
use Rattle.json_text.proofs.find.has_same_name.Goals as goal

both : {X : Type 0} (r : Option X) (b : Bool) (P Q : X → Type 0) (G : Type 0) → MatchOption r ⊥ P → MatchOption r (b ≡ false) Q → ((x : X) → P x → Q x → G) → G
both None b P Q G h k f = absurd h
both (Some x) b P Q G h k f = f x h k

pub returns : goal.returns
returns c = λ end e m. both c.chars_at.result c.is_some_and.result _ _ _ (c.chars_at.ensures.of_the_member_there end e m) c.is_some_and.ensures (λ x p q. search rules)
