-- Reading a file record by record.
use Rattle.std.proofs.Common.{◌≡◌, ℕ, ◌+◌, ◌-◌, ◌<◌, ◌≤◌, ◌^◌, List, [], ◌∷◌, ◌++◌, length, drop, refl, sym, ◌∙◌, ap, subst, arith, append_assoc, length-append}
use Rattle.std.specs.Prelude.{Some, None}
use Rattle.std.proofs.lemmas.List.{append-nil, flat_map_more, drop_at}
use Rattle.mega_journal.specs.Chain.{record_of, chain_of, first_record, records_of, AreShort}
use Rattle.mega_disk.proofs.Chains.{IsBytes, bytes_drop}
use Rattle.mega_journal.proofs.Records.{spelled_by, records_more, records_none}

-- the records so far and those of the rest are those of the bytes
pub record Reading (bytes : List ℕ) (records : List (List ℕ)) (rest : List ℕ) : Type 0 where
  pub read : records ++ records_of rest ≡ records_of bytes
  pub spelled : bytes ≡ chain_of records ++ rest
  pub short : AreShort records
  pub behind : 0 < length bytes → 0 < length rest

pub begun : (bytes : List ℕ) → Reading bytes [] bytes
begun bytes = record { read = refl; spelled = refl; short = tt; behind = λ some. some }

pub chain_push : (records : List (List ℕ)) (body : List ℕ) → chain_of (records ++ body ∷ []) ≡ chain_of records ++ record_of body
chain_push records body = sym (flat_map_more record_of [] records body)

pub short_push : (records : List (List ℕ)) (body : List ℕ) → AreShort records → length body < 2 ^ 32 → AreShort (records ++ body ∷ [])
short_push [] body short last = (last, tt)
short_push (first ∷ records) body short last = (short.0, short_push records body short.1 last)

pub reads_on : (bytes : List ℕ) (records others : List (List ℕ)) (rest body after : List ℕ) → Reading bytes records rest → IsBytes rest → Some (body, after) ≡ first_record rest → others ≡ records ++ body ∷ [] → Reading bytes others after
reads_on bytes records others rest body after so_far fits is pushed =
    let one = spelled_by rest body after fits (sym is) in
    subst (λ (l : List (List ℕ)). Reading bytes l after) (sym pushed) (record {
      read = append_assoc records (body ∷ []) (records_of after) ∙ ap (λ (l : List (List ℕ)). records ++ l) (sym (records_more rest body after (sym is))) ∙ so_far.read;
      spelled = so_far.spelled ∙ ap (λ (l : List ℕ). chain_of records ++ l) one.spelled ∙ sym (append_assoc (chain_of records) (record_of body) after) ∙ ap (λ (l : List ℕ). l ++ after) (sym (chain_push records body));
      short = short_push records body so_far.short one.short;
      behind = λ some. one.behind;
    })

-- where the rest begins with no record, all have been read
pub record Ends (bytes : List ℕ) (records : List (List ℕ)) (end : ℕ) : Type 0 where
  pub records_are : records ≡ records_of bytes
  pub place : end ≡ length (chain_of (records_of bytes))
  pub spelled : bytes ≡ chain_of (records_of bytes) ++ drop end bytes
  pub closed : first_record (drop end bytes) ≡ None
  pub short : AreShort (records_of bytes)

pub ends : (bytes : List ℕ) (records : List (List ℕ)) (rest : List ℕ) → Reading bytes records rest → None ≡ first_record rest → Ends bytes records (length bytes - length rest)
ends bytes records rest so_far none =
    let all : records ≡ records_of bytes = sym (append-nil records) ∙ ap (λ (l : List (List ℕ)). records ++ l) (sym (records_none rest (sym none))) ∙ so_far.read in
    let size : length bytes ≡ length (chain_of records) + length rest = ap length so_far.spelled ∙ length-append (chain_of records) rest in
    let place : length (chain_of records) ≡ length bytes - length rest = omega (arith, size) in
    let back : drop (length bytes - length rest) bytes ≡ rest = ap (drop (length bytes - length rest)) so_far.spelled ∙ drop_at (chain_of records) rest (length bytes - length rest) place in
    record {
      records_are = all;
      place = sym place ∙ ap (λ (l : List (List ℕ)). length (chain_of l)) all;
      spelled = so_far.spelled ∙ ap (λ (l : List (List ℕ)). chain_of l ++ rest) all ∙ ap (λ (l : List ℕ). chain_of (records_of bytes) ++ l) (sym back);
      closed = ap first_record back ∙ sym none;
      short = subst AreShort all so_far.short;
    }

pub rest_bytes : (bytes : List ℕ) (records : List (List ℕ)) (rest : List ℕ) → Reading bytes records rest → IsBytes bytes → IsBytes rest
rest_bytes bytes records rest so_far fits =
    subst IsBytes (ap (drop (length (chain_of records))) so_far.spelled ∙ drop_at (chain_of records) rest (length (chain_of records)) refl) (bytes_drop (length (chain_of records)) bytes fits)

-- each record takes bytes
chain_long : (records : List (List ℕ)) → length records ≤ length (chain_of records)
chain_long [] = omega arith
chain_long (body ∷ records) = let rest = chain_long records in omega (arith, length-append (record_of body) (chain_of records))

pub few_records : (bytes : List ℕ) (records : List (List ℕ)) (rest : List ℕ) → Reading bytes records rest → length records ≤ length bytes - length rest
few_records bytes records rest so_far = let size = ap length so_far.spelled ∙ length-append (chain_of records) rest in omega (arith, chain_long records, size)
