-- Rows that are indexed, and rows that are not.
use Rattle.std.proofs.Common.{◌≡◌, inl, inr, ◌<◌, ◌∙◌, ℕ, zero, suc, ◌+◌, cond, Bool, true, false, if◌then◌else◌, List, [], ◌∷◌, slice_get, codes, refl, sym, ap, subst, arith, Option, Some, None, Ok}
use Rattle.std.proofs.lemmas.Str.{IsUtf8-from_is_utf8}
use Rattle.mega_base.specs.declared.names.OpId.{OpId}
use Rattle.mega_base.specs.declared.values.Row.{Row}
use Rattle.mega_schema.specs.declared.schema.Table.{Table}
use Rattle.mega_schema.specs.Lookup.{is_root_table}
use Rattle.std.specs.Str.{is_utf8, chars}
use Rattle.mega_keys.specs.Reading.{key_at, key_front_at, byte_at, root_at, values_at, int64_at, text_at, unescaped, text_of}
use Rattle.mega_index.specs.Rows.{row_under, same_key, no_rows}
use Rattle.mega_index.specs.Fits.{indexes_of, numbered}
use Rattle.mega_index.specs.Fitted.{table_of}
use Rattle.mega_outcome.specs.declared.request.Request.{Request}
use Rattle.mega_outcome.specs.declared.transaction.Change.TheVariants.{Put}
use Rattle.mega_outcome.specs.Changes.{all_changes}
use Rattle.mega_promises.specs.of_transcript.declared.item.Item.{Item}
use Rattle.mega_promises.specs.of_transcript.declared.item.Item.TheVariants.{Begin}
use Rattle.mega_wal.specs.Same.{same_op}
use Rattle.mega_promises.specs.of_rules.Acting.{table_rows}
use Rattle.mega_promises.specs.of_rules.Examples.{group, put, user, users}
use Rattle.mega_promises.specs.Promises.{asked_for}
use Rattle.mega_tape_laws.specs.Examples.{asks_put}
use Rattle.mega_tape_laws.specs.Indexed.{AskValues, AsksValues, IsDeclared, IsIndexed, local_index_rows}
use Rattle.mega_tape_laws.specs.IndexExamples.{john_key, named_users, no_text, no_text_key, nothing_stored, put_writes, user_key, whole, without_entry, without_user, word_group, word_schema}
use Rattle.mega_ballot.specs.Order.{zero_ballot}
use Rattle.mega_entry.specs.declared.content.Content.{Content}
use Rattle.mega_wire.specs.declared.message.Body.TheVariants.{Accepted}
use Rattle.mega_index.specs.Rows.{after, list_after}
use Rattle.mega_outcome.specs.Outcome.{outcome}
use Rattle.mega_promises.specs.of_transcript.declared.item.Item.TheVariants.{Taken}
use Rattle.mega_promises.specs.of_transcript.Tape.{newest}
use Rattle.mega_promises.specs.of_rules.Examples.{op_of}
use Rattle.mega_promises.specs.Promises.{log_of}
use Rattle.mega_tape_laws.specs.Places.{IsMajority}
use Rattle.mega_tape_laws.specs.Lawful.{Heard, Lawful, asks, lowest, settled, spreads}
use Rattle.mega_tape_laws.specs.Writes.{AreWritten, LawfulWrites, Own, OwnEntry, again, own, runs}
use Rattle.mega_tape_laws.specs.Examples.{first, place}
use Rattle.mega_tape_laws.specs.IndexExamples.{named_begun, named_cluster, named_entry, named_put}
use Rattle.mega_tape_laws.proofs.Witnesses.{first_two}
use Rattle.mega_tape_laws.proofs.Writing.{transaction}
use Rattle.mega_tape_laws.proofs.Lists.{some_is}
use Rattle.mega_index.proofs.KeyLists.{key_is}
use Rattle.mega_tape_laws.proofs.RowKeys.{numbered_at}

pub put_comes : all_changes named_users group.key no_rows 0 (Put 1 user ∷ []) ≡ Ok put_writes
put_comes = refl

pub entries_are : local_index_rows named_users 1 (indexes_of named_users) (table_rows named_users group whole) ≡ (john_key, nothing_stored) ∷ []
unfolding key_at key_front_at byte_at root_at values_at int64_at
entries_are = refl

pub no_entry : IsIndexed named_users group without_entry → ⊥
unfolding key_at key_front_at byte_at root_at values_at int64_at
no_entry h = let e : None ≡ Some nothing_stored = h john_key refl in cc

pub no_user : IsIndexed named_users group without_user → ⊥
unfolding key_at key_front_at byte_at root_at values_at int64_at
no_user h = let e : Some nothing_stored ≡ None = h john_key refl in cc

user_of_table : table_of named_users group.key user_key ≡ Some 1
unfolding key_at key_front_at byte_at root_at values_at int64_at
user_of_table = refl

pub whole_indexed : IsIndexed named_users group whole
whole_indexed key none =
    by (same_key key user_key) refl
    ∙ ap (λ (es : List (List ℕ × Row)). row_under es key) (sym entries_are)
  where
    by : (b : Bool) → same_key key user_key ≡ b → cond b (Some user) (row_under ((john_key, nothing_stored) ∷ []) key) ≡ row_under ((john_key, nothing_stored) ∷ []) key
    by true is = absurd (is_table (sym none ∙ ap (table_of named_users group.key) (key_is key user_key is) ∙ user_of_table))
      where
        is_table : ◌≡◌ {A = Option ℕ} None (Some 1) → ⊥
        is_table h = cc
    by false is = refl

one_table : (n : ℕ) (t : Table) → numbered named_users.tables n ≡ Some t → (n ≡ 1) × (users ≡ t)
one_table n t h =
    let r = numbered_at named_users.tables n t h in
    at r.place r.there r.number_is
  where
    at : (place : ℕ) → slice_get (users ∷ []) place ≡ Some t → n ≡ 1 + place → (n ≡ 1) × (users ≡ t)
    at zero there number = (number, cc)
    at (suc place) there number = cc

pub declared : IsDeclared named_users
declared = record {
  most = omega arith;
  roots = λ n t h root. let r = one_table n t h in sym (ap (λ (x : Table). x.root) r.1) ∙ sym r.0;
  others = λ n t h child. let r = one_table n t h in absurd (root_no_child (ap is_root_table r.1 ∙ child));
}
  where
    root_no_child : true ≡ false → ⊥
    root_no_child h = cc

-- what is asked for is the put
is_put : (tape : List Item) (op : OpId) (request : Request) → asked_for asks_put.meaning tape op ≡ Some request → put ≡ request
is_put [] op request h = cc
is_put (Begin began text ∷ before) op request h = by (same_op began op) (is_put before op request) h
  where
    by : (b : Bool) → (asked_for asks_put.meaning before op ≡ Some request → put ≡ request) → (if b then Some put else asked_for asks_put.meaning before op) ≡ Some request → put ≡ request
    by true more g = some_is put request g
    by false more g = more g
is_put (_ ∷ before) op request h = is_put before op request h

john_is_text : is_utf8 (codes "John") ≡ true
unfolding is_utf8 chars lib.Utf8.encode
john_is_text = refl

pub put_values : (tape : List Item) → AskValues asks_put tape
put_values tape op request h = subst AsksValues (is_put tape op request h) held
  where
    held : AsksValues put
    held = (((omega arith, tt), ((IsUtf8-from_is_utf8 (codes "John") john_is_text, tt), tt)), tt)

-- ---- a lawful tape with the put

two_heard : (voter : ℕ) → first_two voter ≡ true → Heard (Taken 4 ∷ newest named_begun) voter (op_of 1) (Accepted (op_of 1) group first zero_ballot named_entry)
two_heard zero h = cc
two_heard (suc zero) h = record { number = 2; sent = inr (inr (inr (inr (inr (inl refl))))); taken = inr (inr (inr (inr (inl refl)))) }
two_heard (suc (suc zero)) h = record { number = 4; sent = inr (inl refl); taken = inl refl }
two_heard (suc (suc (suc n))) h = cc

two_of_three : IsMajority named_cluster first_two
two_of_three = let h : 3 < 4 = omega arith in h

lawful : Lawful named_cluster (newest named_put)
lawful = (settled (op_of 1) zero_ballot first_two refl two_of_three two_heard, (tt, (record { asked = record { number = 3; sent = inr (inl refl); taken = inl refl }; answer = refl }, (tt, (spreads 1 refl (lowest refl refl) (record { number = 2; sent = inr (inl refl); taken = inl refl }), (tt, (record { asked = record { number = 1; sent = inr (inl refl); taken = inl refl }; answer = refl }, (tt, (asks refl (lowest refl refl), (tt, tt))))))))))

comes : outcome named_users transaction (after [] no_rows) ≡ Ok (record { replies = []; writes = put_writes; sends = [] })
unfolding Rattle.mega_base.specs.Codec.number_text
comes = refl

proposed : OwnEntry named_users asks_put (Begin (op_of 1) [] ∷ []) (op_of 1) group [] named_entry
proposed = runs transaction (record { replies = []; writes = put_writes; sends = [] }) refl refl comes refl

first_own : Own named_users asks_put (Begin (op_of 1) [] ∷ []) 1 (op_of 1) place named_entry
first_own = record { named = omega arith; below = []; reaches = refl; known = λ k d is. absurd (nothing is); entry = proposed; home = λ q b other i. absurd i }
  where
    nothing : {d : Content} → None ≡ Some d → ⊥
    nothing h = cc

written : AreWritten named_users asks_put (newest named_put)
written = (tt, (tt, (tt, (tt, (again (op_of 1) zero_ballot (inl refl), (tt, (tt, (tt, (own first_own, ((λ named. refl), tt))))))))))

pub named_writes : LawfulWrites named_cluster asks_put (newest named_put)
named_writes = record { lawful = lawful; written = written }

pub named_log : list_after (log_of (newest named_put) group) [] ≡ whole
named_log = refl

-- ---- a word that is no text

pub word_comes : all_changes word_schema word_group.key no_rows 0 (Put 1 no_text ∷ []) ≡ Ok (record { key = no_text_key; row = Some no_text } ∷ [])
word_comes = refl

pub word_alone : IsIndexed word_schema word_group ((no_text_key, no_text) ∷ []) → ⊥
unfolding key_at key_front_at byte_at root_at values_at text_at unescaped text_of is_utf8 chars
word_alone h = let e : Some no_text ≡ None = h no_text_key refl in cc
