use Rattle.std.proofs.Common.{◌≡◌, ℕ, ◌+◌, List, ◌++◌, length, take, sym, ap, ◌∙◌, arith, rules}
use Rattle.std.proofs.lemmas.List.{append_assoc, length-append}
use Rattle.std.proofs.lemmas.Bool.{leb-false}
use Rattle.std.proofs.lemmas.Result.{err_from_is_err_and}
use Rattle.dts_resolver.specs.Rows.{suffix_of}
use Rattle.dts_resolver.proofs.file_step.assemble.Goals as goal

-- the length of a path in four parts, of which the last three are its suffix
whole : (a b c d s : List ℕ) → b ++ (c ++ d) ≡ s → length (a ++ s) ≡ length a + (length b + (length c + length d))
whole a b c d s e = omega (arith, length-append a s, ap length e, length-append b (c ++ d), length-append c d)

-- what the lent bytes hold at last is what the list of them holds
at_last : (n : ℕ) (into items path : List ℕ) → into ≡ items → take n items ≡ path → take n into ≡ path
at_last n into items path same e = ap (take n) same ∙ e

pub returns-in_err-append : goal.returns-in_err-append
returns-in_err-append c =
    let parts = whole c.args.stem.now c.parts.result.0.now c.parts.result.1.now c.parts.result.2.now (suffix_of c.args.suffix) c.parts.ensures.in_order in
    let exit = err_from_is_err_and c.from_residual.result c.from_residual.ensures.1 in
    record { stem_and_suffix = rw exit.1 (omega (arith, leb-false _ _ (sym c.in_err-append.ensures.fits), c.new-path.ensures.holds_none, ap length c.new-path.ensures.memory_as_before, parts)) }

pub returns-in_err-append-2 : goal.returns-in_err-append-2
returns-in_err-append-2 c =
    let parts = whole c.args.stem.now c.parts.result.0.now c.parts.result.1.now c.parts.result.2.now (suffix_of c.args.suffix) c.parts.ensures.in_order in
    let exit = err_from_is_err_and c.from_residual-in_err-append-2.result c.from_residual-in_err-append-2.ensures.1 in
    record { stem_and_suffix = rw exit.1 (omega (arith, leb-false _ _ (sym c.in_err-append-2.ensures.fits), c.in_ok-append.ensures.counted, c.in_ok-append.ensures.same_capacity, c.new-path.ensures.holds_none, ap length c.new-path.ensures.memory_as_before, parts)) }

pub returns-in_err-append-3 : goal.returns-in_err-append-3
returns-in_err-append-3 c =
    let parts = whole c.args.stem.now c.parts.result.0.now c.parts.result.1.now c.parts.result.2.now (suffix_of c.args.suffix) c.parts.ensures.in_order in
    let exit = err_from_is_err_and c.from_residual-in_err-append-3.result c.from_residual-in_err-append-3.ensures.1 in
    record { stem_and_suffix = rw exit.1 (omega (arith, leb-false _ _ (sym c.in_err-append-3.ensures.fits), c.in_ok-append.ensures.counted, c.in_ok-append.ensures.same_capacity, c.in_ok-append-2.ensures.counted, c.in_ok-append-2.ensures.same_capacity, c.new-path.ensures.holds_none, ap length c.new-path.ensures.memory_as_before, parts)) }

pub returns-in_err-append-4 : goal.returns-in_err-append-4
returns-in_err-append-4 c =
    let parts = whole c.args.stem.now c.parts.result.0.now c.parts.result.1.now c.parts.result.2.now (suffix_of c.args.suffix) c.parts.ensures.in_order in
    let exit = err_from_is_err_and c.from_residual-in_err-append-4.result c.from_residual-in_err-append-4.ensures.1 in
    record { stem_and_suffix = rw exit.1 (omega (arith, leb-false _ _ (sym c.in_err-append-4.ensures.fits), c.in_ok-append.ensures.counted, c.in_ok-append.ensures.same_capacity, c.in_ok-append-2.ensures.counted, c.in_ok-append-2.ensures.same_capacity, c.in_ok-append-3.ensures.counted, c.in_ok-append-3.ensures.same_capacity, c.new-path.ensures.holds_none, ap length c.new-path.ensures.memory_as_before, parts)) }

pub returns : goal.returns
returns c =
    let stem = c.args.stem.now in
    let head = c.parts.result.0.now in
    let ending = c.parts.result.1.now in
    let tail = c.parts.result.2.now in
    let items = c.append-4.new.self.items.now in
    let first = c.in_ok-append.ensures.all_more ∙ ap (λ n. take n c.new-path.result.items.now ++ stem) c.new-path.ensures.holds_none in
    let second = c.in_ok-append-2.ensures.all_more ∙ ap (λ xs. xs ++ head) first in
    let third = c.in_ok-append-3.ensures.all_more ∙ ap (λ xs. xs ++ ending) second in
    let all = c.in_ok-append-4.ensures.all_more ∙ ap (λ xs. xs ++ tail) third ∙ ap (λ xs. xs ++ tail) (append_assoc stem head ending) ∙ append_assoc stem (head ++ ending) tail ∙ ap (λ xs. stem ++ xs) (append_assoc head ending tail ∙ c.parts.ensures.in_order) in
    record { stem_and_suffix = at_last _ _ items _ (search rules) (ap (λ n. take n items) c.len.ensures.count ∙ all) }
