-- What is read of good tokens holds UTF-8 alone.
use Rattle.std.proofs.Common.{◌≡◌, ℕ, zero, suc, Option, Some, None, List, [], ◌∷◌, length, refl, sym, ◌∙◌, ap, subst, IsUtf8}
use Rattle.std.specs.Prelude.{option_map, option_and_then}
use Rattle.json.specs.Token.{Token}
use Rattle.json.specs.Json as json
use Rattle.json.specs.Json.{Parse, after_end_array, items, items_step, members, members_step, parse_map, read_key, value, value_with}
use Rattle.mega_json_laws.proofs.Tokens.{AreGood, IsGood}

abbrev mutual
  pub IsClean : json.Json → Type 0
  IsClean json.null = Unit {0}
  IsClean (json.boolean b) = Unit {0}
  IsClean (json.number s) = Unit {0}
  IsClean (json.string s) = IsUtf8 s
  IsClean (json.array js) = AreCleanItems js
  IsClean (json.object ms) = AreCleanMembers ms

  pub AreCleanItems : json.Items → Type 0
  AreCleanItems json.no_items = Unit {0}
  AreCleanItems (json.item j js) = IsClean j × AreCleanItems js

  pub AreCleanMembers : json.Members → Type 0
  AreCleanMembers json.no_members = Unit {0}
  AreCleanMembers (json.member k j ms) = IsUtf8 k × (IsClean j × AreCleanMembers ms)

-- what was read, and what is left
abbrev pub Reads : {A : Type 0} → (A → Type 0) → Option (A × List Token) → Type 0
Reads P None = Unit {0}
Reads P (Some read) = P read.0 × AreGood read.1

abbrev ReadsBy : {A : Type 0} → (A → Type 0) → Parse A → Type 0
ReadsBy P parse = (ts : List Token) → AreGood ts → Reads P (parse ts)

mapped : {A B : Type 0} (P : A → Type 0) (Q : B → Type 0) (f : A → B) (o : Option (A × List Token)) → ((a : A) → P a → Q (f a)) → Reads P o → Reads Q (parse_map f o)
mapped P Q f None keeps reads = tt
mapped P Q f (Some read) keeps reads = (keeps read.0 reads.0, reads.1)

then_read : {A B : Type 0} (P : A → Type 0) (Q : B → Type 0) (o : Option (A × List Token)) (f : (A × List Token) → Option (B × List Token)) → Reads P o → ((read : A × List Token) → P read.0 → AreGood read.1 → Reads Q (f read)) → Reads Q (option_and_then f o)
then_read P Q None f reads more = tt
then_read P Q (Some read) f reads more = more read reads.0 reads.1

-- ---- items

abbrev AreLeft : Option (List Token) → Type 0
AreLeft None = Unit {0}
AreLeft (Some rest) = AreGood rest

ended : (ts : List Token) → AreGood ts → AreLeft (after_end_array ts)
ended [] good = tt
ended (Token.begin_object ∷ ts) good = tt
ended (Token.end_object ∷ ts) good = tt
ended (Token.begin_array ∷ ts) good = tt
ended (Token.end_array ∷ ts) good = good.1
ended (Token.key s ∷ ts) good = tt
ended (Token.string s ∷ ts) good = tt
ended (Token.number s ∷ ts) good = tt
ended (Token.boolean b ∷ ts) good = tt
ended (Token.null ∷ ts) good = tt
ended (Token.bad ∷ ts) good = tt

items_stepped : (one : Parse json.Json) (more : Parse json.Items) (ts : List Token) (o : Option (List Token)) → ReadsBy IsClean one → ReadsBy AreCleanItems more → AreGood ts → AreLeft o → Reads AreCleanItems (items_step one more ts o)
items_stepped one more ts (Some rest) ones mores good left = (tt, left)
items_stepped one more ts None ones mores good left =
    then_read IsClean AreCleanItems (one ts) (λ p. parse_map (json.item p.0) (more p.1)) (ones ts good)
    (λ read clean rest. mapped AreCleanItems AreCleanItems (json.item read.0) (more read.1) (λ js many. (clean, many)) (mores read.1 rest))

items_read : (one : Parse json.Json) → ReadsBy IsClean one → (n : ℕ) → ReadsBy AreCleanItems (items one n)
unfolding items
items_read one ones zero ts good = tt
items_read one ones (suc n) ts good = items_stepped one (items one n) ts (after_end_array ts) ones (items_read one ones n) good (ended ts good)

-- ---- members

abbrev IsKey : Option (List ℕ) → Type 0
IsKey None = Unit {0}
IsKey (Some k) = IsUtf8 k

key_read : ReadsBy IsKey read_key
key_read [] good = tt
key_read (Token.begin_object ∷ ts) good = tt
key_read (Token.end_object ∷ ts) good = (tt, good.1)
key_read (Token.begin_array ∷ ts) good = tt
key_read (Token.end_array ∷ ts) good = tt
key_read (Token.key s ∷ ts) good = (good.0, good.1)
key_read (Token.string s ∷ ts) good = tt
key_read (Token.number s ∷ ts) good = tt
key_read (Token.boolean b ∷ ts) good = tt
key_read (Token.null ∷ ts) good = tt
key_read (Token.bad ∷ ts) good = tt

members_stepped : (one : Parse json.Json) (more : Parse json.Members) (key : Option (List ℕ)) (ts : List Token) → ReadsBy IsClean one → ReadsBy AreCleanMembers more → IsKey key → AreGood ts → Reads AreCleanMembers (members_step one more key ts)
members_stepped one more None ts ones mores k good = (tt, good)
members_stepped one more (Some name) ts ones mores k good =
    then_read IsClean AreCleanMembers (one ts) (λ p. parse_map (json.member name p.0) (more p.1)) (ones ts good)
    (λ read clean rest. mapped AreCleanMembers AreCleanMembers (json.member name read.0) (more read.1) (λ ms many. (k, (clean, many))) (mores read.1 rest))

members_read : (one : Parse json.Json) → ReadsBy IsClean one → (n : ℕ) → ReadsBy AreCleanMembers (members one n)
unfolding members
members_read one ones zero ts good = tt
members_read one ones (suc n) ts good =
    then_read IsKey AreCleanMembers (read_key ts) (λ p. members_step one (members one n) p.0 p.1) (key_read ts good)
    (λ read k rest. members_stepped one (members one n) read.0 read.1 ones (members_read one ones n) k rest)

-- ---- values

value_by : (a : Parse json.Items) (o : Parse json.Members) → ReadsBy AreCleanItems a → ReadsBy AreCleanMembers o → ReadsBy IsClean (value_with a o)
value_by a o arrays objects [] good = tt
value_by a o arrays objects (Token.begin_object ∷ ts) good = mapped AreCleanMembers IsClean json.object (o ts) (λ ms many. many) (objects ts good.1)
value_by a o arrays objects (Token.end_object ∷ ts) good = tt
value_by a o arrays objects (Token.begin_array ∷ ts) good = mapped AreCleanItems IsClean json.array (a ts) (λ js many. many) (arrays ts good.1)
value_by a o arrays objects (Token.end_array ∷ ts) good = tt
value_by a o arrays objects (Token.key s ∷ ts) good = tt
value_by a o arrays objects (Token.string s ∷ ts) good = (good.0, good.1)
value_by a o arrays objects (Token.number s ∷ ts) good = (tt, good.1)
value_by a o arrays objects (Token.boolean b ∷ ts) good = (tt, good.1)
value_by a o arrays objects (Token.null ∷ ts) good = (tt, good.1)
value_by a o arrays objects (Token.bad ∷ ts) good = tt

pub value_read : (depth : ℕ) (ts : List Token) → AreGood ts → Reads IsClean (value depth ts)
unfolding value
value_read zero ts good = value_by (λ ts. None) (λ ts. None) (λ ts good. tt) (λ ts good. tt) ts good
value_read (suc depth) ts good =
    value_by (λ ts. items (value depth) (length ts) ts) (λ ts. members (value depth) (length ts) ts) (λ ts good. items_read (value depth) (value_read depth) (length ts) ts good)
    (λ ts good. members_read (value depth) (value_read depth) (length ts) ts good) ts good
