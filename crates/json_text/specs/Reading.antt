-- What reading a part of a text tells: by the grammar what was read, or how what was read could go on; by the
-- machine what it comes to, for every stack of open brackets that fits.
use Rattle.std.specs.Prelude.{◌≡◌, ℕ, ◌+◌, ◌<◌, ◌≤◌, true, false, List, [], ◌∷◌, ◌++◌, length, Result, MatchResult, slice_index_or}
use Rattle.std.specs.List.{between}
use Rattle.json_string.specs.declared.reading.Fault.{Fault}
use Rattle.json_string.specs.String.{Chars}
use Rattle.json_text.specs.declared.cursor.Cursor.{Cursor}
use Rattle.json_text.specs.declared.token.Token.{Token}
use Rattle.json_text.specs.Json.{Json, Values, Members, Value, ValueList, MemberList, Member, Structural, NameSeparator, String, Ws, Optional, Int, Frac, Exp, Sign, Digits, all, is_ws, is_digit}
use Rattle.json_text.specs.Machine.{Stack, count, State, stopped, from, left}
use Rattle.json_text.specs.declared.texts.TheConstants.{DEPTH}

-- The bytes from `at` to `end` are by the rule, and over them the machine goes from the first state to the second.
pub record Reads (Rule : List ℕ → Type 0) (s s' : Stack → State) (Fit : Stack → Type 0) (t : List ℕ) (at end : ℕ) : Type 0 where
  pub not_before : at ≤ end
  pub inside : end ≤ length t
  pub rule : Rule (between at end t)
  pub runs : (σ : Stack) → Fit σ → from (s σ) at t ≡ from (s' σ) end t

-- The bytes from `at` to `place` can be completed by the rule, and the machine stops before the symbol there.
pub record Stops (Rule : List ℕ → Type 0) (s : Stack → State) (Fit : Stack → Type 0) (t : List ℕ) (at place : ℕ) : Type 0 where
  pub not_before : at ≤ place
  pub inside : place ≤ length t
  pub begins : (rest : List ℕ) × Rule (between at place t ++ rest)
  pub stops : (σ : Stack) → Fit σ → from (s σ) at t ≡ stopped (left place t)

-- The next cursor is in the same text, behind what is read from here.
abbrev pub ReadTo : (List ℕ → Type 0) → (Stack → State) → (Stack → State) → (Stack → Type 0) → Cursor → Cursor → Type 0
ReadTo Rule s s' Fit here next = (next.text.now ≡ here.text.now) × Reads Rule s s' Fit here.text.now here.at next.at

-- What a reader tells from a cursor on: the one behind what it read, or the place of the fault.
abbrev pub Reading : (List ℕ → Type 0) → (Stack → State) → (Stack → State) → (Stack → Type 0) → Cursor → Result Cursor Fault → Type 0
Reading Rule s s' Fit here r = MatchResult r (λ next. ReadTo Rule s s' Fit here next) (λ f. Stops Rule s Fit here.text.now here.at f.place)

-- The same of a reader that goes on to the next token.
abbrev pub TokenReading : (List ℕ → Type 0) → (Stack → State) → (Stack → State) → (Stack → Type 0) → Cursor → Result Token Fault → Type 0
TokenReading Rule s s' Fit here r = MatchResult r (λ next. ReadTo Rule s s' Fit here next.start) (λ f. Stops Rule s Fit here.text.now here.at f.place)

-- The same of a reader that tells no cursor, but the place where what it read ends.
abbrev pub EndReading : (List ℕ → Type 0) → (Stack → State) → (Stack → State) → (Stack → Type 0) → Cursor → Result ℕ Fault → Type 0
EndReading Rule s s' Fit here r = MatchResult r (λ end. Reads Rule s s' Fit here.text.now here.at end) (λ f. Stops Rule s Fit here.text.now here.at f.place)

-- The same of one that tells the place of the next token, where no white space stands.
abbrev pub NextReading : (List ℕ → Type 0) → (Stack → State) → (Stack → State) → (Stack → Type 0) → Cursor → Result ℕ Fault → Type 0
NextReading Rule s s' Fit here r =
    MatchResult r (λ next. Reads Rule s s' Fit here.text.now here.at next × (is_ws (slice_index_or here.text.now next 256) ≡ false)) (λ f. Stops Rule s Fit here.text.now here.at f.place)

-- Any stack; a stack that leaves room for d brackets more.
abbrev pub Any : Stack → Type 0
Any σ = Unit {0}

abbrev pub Room : ℕ → Stack → Type 0
Room d σ = count σ + d ≡ DEPTH

-- Some value's text with at most d brackets open.
abbrev pub AnyValue : ℕ → List ℕ → Type 0
AnyValue d t = (v : Json) × Value d t v

-- Digits from `at` to `end`, where none follows.
pub record DigitsAt (t : List ℕ) (at end : ℕ) : Type 0 where
  pub not_before : at < end
  pub inside : end ≤ length t
  pub first : is_digit (slice_index_or t at 256) ≡ true
  pub others : all is_digit (between (at + 1) end t) ≡ true
  pub last : is_digit (slice_index_or t end 256) ≡ false

-- No digit stands there, which is the place of the fault.
pub record NoDigitAt (t : List ℕ) (at place : ℕ) : Type 0 where
  pub here : place ≡ at
  pub none : is_digit (slice_index_or t at 256) ≡ false

-- A number behind its minus, and an exp behind its e.
pub record Unsigned (t : List ℕ) : Type 0 where
  pub int : List ℕ
  pub frac : List ℕ
  pub exp : List ℕ
  pub is_int : Int int
  pub is_frac : Optional Frac frac
  pub is_exp : Optional Exp exp
  pub split : t ≡ int ++ (frac ++ exp)

pub record SignedDigits (t : List ℕ) : Type 0 where
  pub sign : List ℕ
  pub digits : List ℕ
  pub has_sign : Optional Sign sign
  pub are_digits : Digits digits
  pub split : t ≡ sign ++ digits

-- Some text of the rule, and white space behind it.
pub record Spaced (Rule : List ℕ → Type 0) (t : List ℕ) : Type 0 where
  pub inner : List ℕ
  pub space : List ℕ
  pub is_inner : Rule inner
  pub is_space : Ws space
  pub split : t ≡ inner ++ space

-- A list of values or of members by its rule, and the closing bracket.
pub record Ended (List-rule : List ℕ → Type 0) (bracket : ℕ) (t : List ℕ) : Type 0 where
  pub inner : List ℕ
  pub end : List ℕ
  pub is_list : List-rule inner
  pub is_end : Structural bracket end
  pub split : t ≡ inner ++ end

-- Some values of an array, and some members of an object, one at least.
abbrev pub AnyValues : ℕ → List ℕ → Type 0
AnyValues d t = (vs : Values) × (v : Json) × ValueList d t vs v

abbrev pub AnyMembers : ℕ → List ℕ → Type 0
AnyMembers d t = (ms : Members) × (k : List ℕ) × (v : Json) × MemberList d t ms k v

abbrev pub AnyMember : ℕ → List ℕ → Type 0
AnyMember d t = (k : List ℕ) × (v : Json) × Member d t k v

-- A string behind its opening quotation mark.
pub record StringEnd (t : List ℕ) : Type 0 where
  pub chars : List ℕ
  pub bytes : List ℕ
  pub are_chars : Chars chars bytes
  pub split : t ≡ chars ++ 34 ∷ []

-- The name of a member and the colon.
pub record NameColon (t : List ℕ) : Type 0 where
  pub name : List ℕ
  pub colon : List ℕ
  pub bytes : List ℕ
  pub is_name : String name bytes
  pub is_colon : NameSeparator colon
  pub split : t ≡ name ++ colon
