-- UTF-8 as a test.
use Rattle.std.proofs.Common.{◌≡◌, ℕ, Bool, true, false, List, IsUtf8, Decides, sym, refl, inl, inr}
use lib.Utf8.{scalars, encodes}
use Rattle.std.specs.Str.{bytes_eq, chars}
use Rattle.std.proofs.lemmas.Slice.Eq.{bytes_eq-Decides}
use Rattle.std.proofs.lemmas.Str.{encodes-chars, scalars-chars}
use Rattle.std.proofs.lemmas.Bool.{and_parts, and_from, cases_Bool, both_ways}
use Rattle.dts_resolver.specs.Checks.{utf8}

pub utf8_decides : (bytes : List ℕ) → Decides (utf8 bytes) (IsUtf8 bytes)
unfolding utf8
utf8_decides bytes = (
  λ e. let parts = and_parts (scalars (chars bytes)) (bytes_eq (encodes (chars bytes)) bytes) e in
      (chars bytes, (parts.0, (bytes_eq-Decides (encodes (chars bytes)) bytes).0 parts.1)),
  λ u. and_from (scalars (chars bytes)) (bytes_eq (encodes (chars bytes)) bytes) (scalars-chars bytes u) ((bytes_eq-Decides (encodes (chars bytes)) bytes).1 (encodes-chars bytes u)),
)

-- a test that decides UTF-8 is the definition's
pub utf8_is : (bytes : List ℕ) (r : Bool) → Decides r (IsUtf8 bytes) → r ≡ utf8 bytes
utf8_is bytes true h = sym ((utf8_decides bytes).1 (h.0 refl))
utf8_is bytes false h = elim (cases_Bool (utf8 bytes)) [
  | inl yes-text ↦ absurd (both_ways false refl (h.1 ((utf8_decides bytes).0 yes-text)))
  | inr no_text ↦ sym no_text
]
