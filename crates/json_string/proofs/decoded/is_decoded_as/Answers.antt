-- What the decoder gives is what the text stands for.
use Rattle.std.proofs.Common.{◌≡◌, ℕ, Bool, List, Decides, sym, ◌∙◌}
use Rattle.std.proofs.lemmas.Iterator.{YieldsList-from_slice}
use Rattle.std.proofs.lemmas.Iterator.Consumers.{YieldsList-from_first, YieldsList-from_copied}
use Rattle.json_string.specs.Left.{left}
use Rattle.json_string.proofs.Comparing.{same_from_eq}
use Rattle.json_string.proofs.Decoding.{chars_decoded}
use Rattle.json_string.proofs.decoded.is_decoded_as.Goals as goal

-- the same of an equal list
decides_same : (r : Bool) (x y z : List ℕ) → x ≡ y → Decides r (x ≡ z) → Decides r (y ≡ z)
decides_same r x y z e h = (λ t. sym e ∙ h.0 t, λ p. h.1 (e ∙ p))

pub returns : goal.returns
returns c =
    let told = same_from_eq c.eq.ensures.ran (YieldsList-from_first (λ x. x) left _ c.new.ensures.all_to_come) (λ it b. YieldsList-from_copied (YieldsList-from_slice c.args.bytes.now (cc))) in
    record { same_bytes = told; of_chars = λ d h. decides_same c.eq.result _ d c.args.bytes.now (chars_decoded _ d h) told }
