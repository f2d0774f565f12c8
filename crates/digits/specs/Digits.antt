-- Numbers and bytes as words write them, on lists of character codes. Assumes nothing.
use Rattle.std.specs.Prelude.{ℕ, ◌+◌, ◌-◌, ◌*◌, ◌^◌, cond, ◌&&◌, List, [], ◌∷◌, length, take, drop, Some, None, codes, Option, ◌==◌, nat_le, nat_lt}
use Rattle.std.specs.Option.{option_map}
use Rattle.std.specs.Str.{bytes_eq}

-- 0 to 9, a to f and A to F
abbrev pub hex_digit : ℕ → Option ℕ
hex_digit b =
    cond (nat_le 48 b && nat_le b 57) (Some (b - 48))
    (cond (nat_le 97 b && nat_le b 102) (Some (b - 97 + 10))
    (cond (nat_le 65 b && nat_le b 70) (Some (b - 65 + 10))
    None))

abbrev pub below : ℕ → Option ℕ → Option ℕ
below n None = None
below n (Some x) = cond (nat_lt x n) (Some x) None

abbrev pub and_then : {A B : Type 0} → Option A → (A → Option B) → Option B
and_then None f = None
and_then (Some x) f = f x

-- the value so far with one digit of the base behind it
abbrev pub added : ℕ → ℕ → ℕ → Option ℕ
added base sofar b = option_map (λ d. sofar * base + d) (below base (hex_digit b))

abbrev pub value_after : ℕ → ℕ → List ℕ → Option ℕ
value_after base sofar [] = Some sofar
value_after base sofar (b ∷ bs) = and_then (added base sofar b) (λ n. value_after base n bs)

-- at least one digit, and a value below 2^32
abbrev pub numeral : ℕ → List ℕ → Option ℕ
numeral base [] = None
numeral base (b ∷ bs) = below (2 ^ 32) (value_after base 0 (b ∷ bs))

-- decimal digits, or hexadecimal ones after 0x
abbrev pub number : List ℕ → Option ℕ
number word = cond (bytes_eq (take 2 word) (codes "0x")) (numeral 16 (drop 2 word)) (numeral 10 word)

-- two digits, the high one first
abbrev pub hex_pair : ℕ → ℕ → Option ℕ
hex_pair high low = and_then (hex_digit high) (λ h. option_map (λ l. 16 * h + l) (hex_digit low))

abbrev pub pairs : List ℕ → Option (List ℕ)
pairs [] = Some []
pairs (h ∷ []) = None
pairs (h ∷ l ∷ bs) = and_then (hex_pair h l) (λ b. option_map (λ rest. b ∷ rest) (pairs bs))

-- one byte or more, or - for none
abbrev pub hex_bytes : List ℕ → Option (List ℕ)
hex_bytes word = cond (bytes_eq word (codes "-")) (Some []) (cond (length word == 0) None (pairs word))
