-- What has the form of a name is ASCII.
use Rattle.poly_reader.proofs.Common.{nat_tests, ◌≡◌, ℕ, ◌<◌, true, List, [], ◌∷◌, arith, and_parts, IsAscii, AllByRecursion, list_all, All-from_recursion, IsAscii-from_all, begins_name, is_name_byte, is_name}

first_ascii : (c : ℕ) → begins_name c ≡ true → c < 128
first_ascii c h = grind (arith, h)

byte_ascii : (c : ℕ) → is_name_byte c ≡ true → c < 128
byte_ascii c h = grind (arith, h)

all_ascii : (cs : List ℕ) → list_all is_name_byte cs ≡ true → AllByRecursion (λ c. c < 128) cs
all_ascii [] h = tt
all_ascii (c ∷ cs) h =
    let parts = and_parts (is_name_byte c) (list_all is_name_byte cs) h in
    (byte_ascii c parts.0, all_ascii cs parts.1)

each_ascii : (name : List ℕ) → is_name name ≡ true → AllByRecursion (λ c. c < 128) name
each_ascii name h = grind (arith, nat_tests, and_parts, first_ascii, all_ascii)

pub name_ascii : (name : List ℕ) → is_name name ≡ true → IsAscii name
name_ascii name h =
    IsAscii-from_all name (All-from_recursion (λ c. c < 128) name (each_ascii name h))
