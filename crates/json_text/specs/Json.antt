-- The grammar of JSON texts, RFC 8259 sections 2 to 7: which bytes are the text of which value.
-- Each rule stands under its name in the RFC, and takes the split of its text as an equation.
use Rattle.std.specs.Prelude.{◌≡◌, ℕ, suc, ◌<◌, ◌≤◌, Bool, true, ◌&&◌, ◌||◌, ◌⊎◌, List, [], ◌∷◌, ◌++◌, length, take, ◌==◌, nat_le}
use Rattle.json_string.specs.String.{Chars}

-- Each byte passes the test.
unfoldable pub all : (ℕ → Bool) → List ℕ → Bool
all test [] = true
all test (x ∷ xs) = test x && all test xs

-- A rule in square brackets: it may be left out.
abbrev pub Optional : (List ℕ → Type 0) → List ℕ → Type 0
Optional Rule t = (t ≡ []) ⊎ Rule t

-- Section 2: ws is any run of spaces, horizontal tabs, line feeds and carriage returns.
unfoldable pub is_ws : ℕ → Bool
is_ws x = x == 32 || (x == 9 || (x == 10 || x == 13))

abbrev pub Ws : List ℕ → Type 0
Ws t = all is_ws t ≡ true

-- Section 2: a structural character, with white space before and after it.
pub record Structural (c : ℕ) (t : List ℕ) : Type 0 where
  pub before : List ℕ
  pub after : List ℕ
  pub before_ws : Ws before
  pub after_ws : Ws after
  pub split : t ≡ before ++ c ∷ after

-- begin-array `[`, end-array `]`, begin-object `{`, end-object `}`, name-separator `:`, value-separator `,`
abbrev pub BeginArray : List ℕ → Type 0
BeginArray = Structural 91

abbrev pub EndArray : List ℕ → Type 0
EndArray = Structural 93

abbrev pub BeginObject : List ℕ → Type 0
BeginObject = Structural 123

abbrev pub EndObject : List ℕ → Type 0
EndObject = Structural 125

abbrev pub NameSeparator : List ℕ → Type 0
NameSeparator = Structural 58

abbrev pub ValueSeparator : List ℕ → Type 0
ValueSeparator = Structural 44

-- Section 6: DIGIT is `0` to `9`, digit1-9 is `1` to `9`.
unfoldable pub is_digit : ℕ → Bool
is_digit x = nat_le 48 x && nat_le x 57

unfoldable pub is_digit1_9 : ℕ → Bool
is_digit1_9 x = nat_le 49 x && nat_le x 57

-- 1*DIGIT
pub record Digits (t : List ℕ) : Type 0 where
  pub first : ℕ
  pub others : List ℕ
  pub first_digit : is_digit first ≡ true
  pub other_digits : all is_digit others ≡ true
  pub split : t ≡ first ∷ others

-- minus = `-`
abbrev pub Minus : List ℕ → Type 0
Minus t = t ≡ 45 ∷ []

-- digit1-9 *DIGIT
pub record Counting (t : List ℕ) : Type 0 where
  pub first : ℕ
  pub others : List ℕ
  pub first_digit : is_digit1_9 first ≡ true
  pub other_digits : all is_digit others ≡ true
  pub split : t ≡ first ∷ others

-- int = zero / ( digit1-9 *DIGIT )
abbrev pub Int : List ℕ → Type 0
Int t = (t ≡ 48 ∷ []) ⊎ Counting t

-- frac = decimal-point 1*DIGIT
pub record Frac (t : List ℕ) : Type 0 where
  pub digits : List ℕ
  pub are_digits : Digits digits
  pub split : t ≡ 46 ∷ digits

-- e = `e` / `E`
unfoldable pub is_e : ℕ → Bool
is_e x = x == 101 || x == 69

-- minus / plus
unfoldable pub is_sign : ℕ → Bool
is_sign x = x == 45 || x == 43

abbrev pub Sign : List ℕ → Type 0
Sign t = (x : ℕ) × (is_sign x ≡ true) × (t ≡ x ∷ [])

-- exp = e [ minus / plus ] 1*DIGIT
pub record Exp (t : List ℕ) : Type 0 where
  pub e : ℕ
  pub sign : List ℕ
  pub digits : List ℕ
  pub is_an_e : is_e e ≡ true
  pub has_sign : Optional Sign sign
  pub are_digits : Digits digits
  pub split : t ≡ e ∷ (sign ++ digits)

-- number = [ minus ] int [ frac ] [ exp ]
pub record Number (t : List ℕ) : Type 0 where
  pub minus : List ℕ
  pub int : List ℕ
  pub frac : List ℕ
  pub exp : List ℕ
  pub is_minus : Optional Minus minus
  pub is_int : Int int
  pub is_frac : Optional Frac frac
  pub is_exp : Optional Exp exp
  pub split : t ≡ minus ++ (int ++ (frac ++ exp))

-- Section 7: string = quotation-mark *char quotation-mark, and the bytes that its characters stand for.
pub record String (t : List ℕ) (s : List ℕ) : Type 0 where
  pub chars : List ℕ
  pub are_chars : Chars chars s
  pub split : t ≡ 34 ∷ (chars ++ 34 ∷ [])

-- Section 3: the values. A string is its decoded bytes; an array has its values and an object its members, each
-- a decoded name and a value, in the order of the text, the last one outermost.
mutual
  pub data Json : Type 0 where
    false_name : Json
    null_name : Json
    true_name : Json
    object : Members → Json
    array : Values → Json
    number : Json
    string : List ℕ → Json

  pub data Values : Type 0 where
    no_values : Values
    values : Values → Json → Values

  pub data Members : Type 0 where
    no_members : Members
    members : Members → List ℕ → Json → Members

mutual
  -- value = false / null / true / object / array / number / string, with at most d brackets open in it
  pub data Value : ℕ → List ℕ → Json → Type 0 where
    is_false : {d : ℕ} {t : List ℕ} → t ≡ 102 ∷ 97 ∷ 108 ∷ 115 ∷ 101 ∷ [] → Value d t false_name
    is_null : {d : ℕ} {t : List ℕ} → t ≡ 110 ∷ 117 ∷ 108 ∷ 108 ∷ [] → Value d t null_name
    is_true : {d : ℕ} {t : List ℕ} → t ≡ 116 ∷ 114 ∷ 117 ∷ 101 ∷ [] → Value d t true_name
    is_number : {d : ℕ} {t : List ℕ} → Number t → Value d t number
    is_string : {d : ℕ} {t s : List ℕ} → String t s → Value d t (string s)
    -- Section 4: object = begin-object [ member *( value-separator member ) ] end-object
    is_empty_object : {d : ℕ} {t : List ℕ} (a b : List ℕ) → BeginObject a → EndObject b → t ≡ a ++ b → Value (suc d) t (object no_members)
    is_object : {d : ℕ} {t : List ℕ} (a b c : List ℕ) {ms : Members} {k : List ℕ} {v : Json} →
        BeginObject a → MemberList d b ms k v → EndObject c → t ≡ a ++ (b ++ c) → Value (suc d) t (object (members ms k v))
    -- Section 5: array = begin-array [ value *( value-separator value ) ] end-array
    is_empty_array : {d : ℕ} {t : List ℕ} (a b : List ℕ) → BeginArray a → EndArray b → t ≡ a ++ b → Value (suc d) t (array no_values)
    is_array : {d : ℕ} {t : List ℕ} (a b c : List ℕ) {vs : Values} {v : Json} →
        BeginArray a → ValueList d b vs v → EndArray c → t ≡ a ++ (b ++ c) → Value (suc d) t (array (values vs v))

  -- value *( value-separator value ): the values before the last, and the last
  pub data ValueList : ℕ → List ℕ → Values → Json → Type 0 where
    one_value : {d : ℕ} {t : List ℕ} {v : Json} → Value d t v → ValueList d t no_values v
    next_value : {d : ℕ} {t : List ℕ} (a b c : List ℕ) {us : Values} {u v : Json} →
        ValueList d a us u → ValueSeparator b → Value d c v → t ≡ a ++ (b ++ c) → ValueList d t (values us u) v

  -- member *( value-separator member ): the members before the last, and the name and value of the last
  pub data MemberList : ℕ → List ℕ → Members → List ℕ → Json → Type 0 where
    one_member : {d : ℕ} {t : List ℕ} {k : List ℕ} {v : Json} → Member d t k v → MemberList d t no_members k v
    next_member : {d : ℕ} {t : List ℕ} (a b c : List ℕ) {ms : Members} {j k : List ℕ} {u v : Json} →
        MemberList d a ms j u → ValueSeparator b → Member d c k v → t ≡ a ++ (b ++ c) → MemberList d t (members ms j u) k v

  -- member = string name-separator value
  pub data Member : ℕ → List ℕ → List ℕ → Json → Type 0 where
    member : {d : ℕ} {t : List ℕ} (a b c : List ℕ) {k : List ℕ} {v : Json} →
        String a k → NameSeparator b → Value d c v → t ≡ a ++ (b ++ c) → Member d t k v

-- Section 2: JSON-text = ws value ws, with at most so many brackets open.
pub record Text (depth : ℕ) (t : List ℕ) (v : Json) : Type 0 where
  pub before : List ℕ
  pub inner : List ℕ
  pub after : List ℕ
  pub before_ws : Ws before
  pub is_value : Value depth inner v
  pub after_ws : Ws after
  pub split : t ≡ before ++ (inner ++ after)

-- Some JSON text begins so.
abbrev pub Begins : ℕ → List ℕ → Type 0
Begins depth b = (rest : List ℕ) × (v : Json) × Text depth (b ++ rest) v

-- The bytes are no JSON text, and p is the length of their longest beginning that some JSON text continues.
pub record LongestBeginning (depth : ℕ) (t : List ℕ) (p : ℕ) : Type 0 where
  pub inside : p ≤ length t
  pub begins : Begins depth (take p t)
  pub longest : (q : ℕ) → p < q → q ≤ length t → Begins depth (take q t) → ⊥
  pub no_text : (v : Json) → Text depth t v → ⊥
