-- Patterns with a star, and targets that are filled with what it stood for, as `typesVersions` of package.json has them.
-- Both are plain lists of decoded bytes.
use Rattle.std.specs.Prelude.{◌≡◌, ℕ, Bool, true, cond, not, ◌&&◌, List, [], ◌∷◌, ◌++◌, ◌==◌}

-- `*`
abbrev pub star : ℕ
star = 0x2A

-- There is no star in the text.
unfoldable pub starless : List ℕ → Bool
starless [] = true
starless (b ∷ t) = not (b == star) && starless t

-- A pattern is split at its first star. It matches a text that begins with what stands before the star and ends with what
-- stands behind it, without overlap; m is what is left between them. A pattern without a star matches only itself, and m is
-- empty then.
pub data Matches (pattern text m : List ℕ) : Type 0 where
  starred : (prefix suffix : List ℕ) → starless prefix ≡ true → pattern ≡ prefix ++ star ∷ suffix → text ≡ prefix ++ (m ++ suffix) → Matches pattern text m
  equal : starless pattern ≡ true → text ≡ pattern → m ≡ [] → Matches pattern text m

-- All stars of a target become m.
unfoldable pub filled : List ℕ → List ℕ → List ℕ
filled m [] = []
filled m (b ∷ t) = cond (b == star) m (b ∷ []) ++ filled m t
