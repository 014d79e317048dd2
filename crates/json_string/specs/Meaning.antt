-- What the states of the code stand for in the machine.
use Rattle.std.specs.Prelude.{[], ◌∷◌}
use Rattle.json_string.specs.declared.state.State.{State}
use Rattle.json_string.specs.declared.state.State.TheVariants.{Plain, Escape, Code, CodeD, Digits3, Digits2, Digits1, High2, High1, LowBackslash, LowU, LowD, LowDigit, Tails3, Tails2, Tails1, AfterE0, AfterEd, AfterF0, AfterF4, Closed, Broken}
use Rattle.json_string.specs.String.{◌–◌, utf8_tail}
use Rattle.json_string.specs.Machine.{StringState, plain, wanted, escape, code, code_d, closed, broken, hexdig, digit_d, digit_c_f, low_surrogate}

abbrev pub meaning : State → StringState
meaning Plain = plain
meaning Escape = escape
meaning Code = code
meaning CodeD = code_d
meaning Digits3 = wanted (hexdig ∷ hexdig ∷ hexdig ∷ [])
meaning Digits2 = wanted (hexdig ∷ hexdig ∷ [])
meaning Digits1 = wanted (hexdig ∷ [])
meaning High2 = wanted (hexdig ∷ hexdig ∷ low_surrogate)
meaning High1 = wanted (hexdig ∷ low_surrogate)
meaning LowBackslash = wanted low_surrogate
meaning LowU = wanted (0x75 – 0x75 ∷ digit_d ∷ digit_c_f ∷ hexdig ∷ hexdig ∷ [])
meaning LowD = wanted (digit_d ∷ digit_c_f ∷ hexdig ∷ hexdig ∷ [])
meaning LowDigit = wanted (digit_c_f ∷ hexdig ∷ hexdig ∷ [])
meaning Tails3 = wanted (utf8_tail ∷ utf8_tail ∷ utf8_tail ∷ [])
meaning Tails2 = wanted (utf8_tail ∷ utf8_tail ∷ [])
meaning Tails1 = wanted (utf8_tail ∷ [])
meaning AfterE0 = wanted (0xA0 – 0xBF ∷ utf8_tail ∷ [])
meaning AfterEd = wanted (0x80 – 0x9F ∷ utf8_tail ∷ [])
meaning AfterF0 = wanted (0x90 – 0xBF ∷ utf8_tail ∷ utf8_tail ∷ [])
meaning AfterF4 = wanted (0x80 – 0x8F ∷ utf8_tail ∷ utf8_tail ∷ [])
meaning Closed = closed
meaning Broken = broken
