-- The first byte of a value tells its kind.
use Rattle.std.proofs.Common.{◌≡◌, ℕ, ◌≢◌, ap, ⊎_elim, arith}
use Rattle.std.proofs.lemmas.Bool.{ne_eqb}
use Rattle.json_text.specs.Json.{Json, false_name, null_name, true_name, object, array, number, string}
use Rattle.json_text.specs.declared.find.Kind.TheVariants as of
use Rattle.json_text.specs.Kinds.{kind, kind_by}
use Rattle.json_text.proofs.StepLaws.{digit_bounds}
use Rattle.json_text.proofs.Standings.{First}

pub plain_by : (x : ℕ) → (x ≢ 123) → (x ≢ 91) → (x ≢ 34) → kind_by x ≡ of.Plain
plain_by x a b c = rw (ne_eqb x 123 a, ne_eqb x 91 b, ne_eqb x 34 c)

pub first_tells : (v : Json) (x : ℕ) → First v x → kind_by x ≡ kind v
first_tells false_name x f = ap kind_by f
first_tells null_name x f = ap kind_by f
first_tells true_name x f = ap kind_by f
first_tells (object ms) x f = ap kind_by f
first_tells (array vs) x f = ap kind_by f
first_tells number x f = ⊎_elim (λ e. ap kind_by e) (λ d. let b = digit_bounds x d in plain_by x (λ e. omega arith) (λ e. omega arith) (λ e. omega arith)) f
first_tells (string s) x f = ap kind_by f
