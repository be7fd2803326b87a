-- Counting who was heard.
use Rattle.std.proofs.Common.{◌≡◌, ◌⊎◌, inl, inr, ℕ, ◌+◌, ◌==◌, ◌≤◌, ◌<◌, ◌*◌, ◌||◌, Bool, true, false, cond, List, [], ◌∷◌, ◌++◌, length, Option, Some, None, refl, sym, ap, ◌∙◌, subst, arith}
use Rattle.std.proofs.lemmas.Bool.Decides.{nat_tests}
use Rattle.std.proofs.lemmas.List.{length_push}
use Rattle.std.proofs.lemmas.Bool.{or_cases, or_left, or_right}
use Rattle.mega_ballot.specs.declared.ballot.Ballot.{Ballot}
use Rattle.mega_cluster.specs.declared.cluster.Cluster.{Cluster}
use Rattle.mega_entry.specs.declared.content.Content.{Content}
use Rattle.mega_base.specs.declared.names.OpId.{OpId}
use Rattle.mega_wire.specs.declared.message.Body.TheVariants.{Accepted, Promise}
use Rattle.mega_wal.specs.Acceptor.{Vote, is_ballot_below}
use Rattle.mega_tape_laws.specs.of_transcript.declared.item.Item.{Item}
use Rattle.mega_tape_laws.specs.of_read.of_propose.Members.{has, is_majority, with_node}
use Rattle.mega_tape_laws.specs.of_read.of_propose.declared.round.Report.{Report}
use Rattle.mega_tape_laws.specs.of_read.of_propose.Rounds.{greater_vote, greatest_vote, picked}
use Rattle.mega_tape_laws.specs.of_rules.Members.{voters}
use Rattle.mega_tape_laws.specs.Places.{Place, count}
use Rattle.mega_tape_laws.specs.Lawful.{Carries, Heard, greatest, own}
use Rattle.mega_tape_laws.proofs.Ballots.{at_most_at_most, at_most_self, below_not, number_is, number_self}
use Rattle.mega_tape_laws.proofs.Lists.{some_is}
use Rattle.mega_run_laws.specs.Justified.{Accepters, Among, Chosen, Reported, is_reported, report_of}

-- counts

count_head : (t u : Bool) (m n : ℕ) → (t ≡ true → u ≡ true) → m ≤ n → (cond t 1 0) + m ≤ (cond u 1 0) + n
count_head true true m n h le = omega arith
count_head true false m n h le = let clashing = h refl in cc
count_head false true m n h le = omega arith
count_head false false m n h le = omega arith

pub count_most : (t u : ℕ → Bool) (nodes : List ℕ) → ((v : ℕ) → t v ≡ true → u v ≡ true) → count t nodes ≤ count u nodes
count_most t u [] h = omega arith
count_most t u (node ∷ nodes) h = count_head (t node) (u node) (count t nodes) (count u nodes) (h node) (count_most t u nodes h)

count_here : (t u : Bool) (m n : ℕ) → t ≡ false → u ≡ true → m ≤ n → ((cond t 1 0) + m) + 1 ≤ (cond u 1 0) + n
count_here true u m n h k le = cc
count_here false true m n h k le = omega arith
count_here false false m n h k le = cc

count_there : (t u : Bool) (m n : ℕ) → (t ≡ true → u ≡ true) → m + 1 ≤ n → ((cond t 1 0) + m) + 1 ≤ (cond u 1 0) + n
count_there true true m n h le = omega arith
count_there true false m n h le = let clashing = h refl in cc
count_there false true m n h le = omega arith
count_there false false m n h le = omega arith

pub count_more : (t u : ℕ → Bool) (x : ℕ) (nodes : List ℕ) → ((v : ℕ) → t v ≡ true → u v ≡ true) → t x ≡ false → u x ≡ true → has x nodes ≡ true → count t nodes + 1 ≤ count u nodes
count_more t u x [] h a b i = cc
count_more t u x (node ∷ nodes) h a b i = elim (or_cases (node == x) (has x nodes) i) [
  | inl e ↦ let same = number_is node x e in count_here (t node) (u node) (count t nodes) (count u nodes) (ap t same ∙ a) (ap u same ∙ b) (count_most t u nodes h)
  | inr j ↦ count_there (t node) (u node) (count t nodes) (count u nodes) (h node) (count_more t u x nodes h a b j)
]

pub majority_is : (members n counted : ℕ) → is_majority members n ≡ true → n ≤ counted → members < 2 * counted
majority_is members n counted h le = let less : members < 2 * n = grind (arith, nat_tests) in omega arith

-- nodes

pub has_push : (x v : ℕ) (nodes : List ℕ) → has v (nodes ++ x ∷ []) ≡ true → (has v nodes ≡ true) ⊎ (x ≡ v)
has_push x v [] h = elim (or_cases (x == v) false h) [ inl e ↦ inr (number_is x v e) | inr k ↦ cc ]
has_push x v (node ∷ nodes) h = elim (or_cases (node == v) (has v (nodes ++ x ∷ [])) h) [
  | inl e ↦ inl (or_left (node == v) (has v nodes) e)
  | inr k ↦ elim (has_push x v nodes k) [ inl j ↦ inl (or_right (node == v) (has v nodes) j) | inr e ↦ inr e ]
]

pub push_has : (x v : ℕ) (nodes : List ℕ) → has v nodes ≡ true → has v (nodes ++ x ∷ []) ≡ true
push_has x v [] h = cc
push_has x v (node ∷ nodes) h = elim (or_cases (node == v) (has v nodes) h) [
  | inl e ↦ or_left (node == v) (has v (nodes ++ x ∷ [])) e
  | inr k ↦ or_right (node == v) (has v (nodes ++ x ∷ [])) (push_has x v nodes k)
]

pub push_last : (x : ℕ) (nodes : List ℕ) → has x (nodes ++ x ∷ []) ≡ true
push_last x [] = or_left (x == x) false (number_self x)
push_last x (node ∷ nodes) = or_right (node == x) (has x (nodes ++ x ∷ [])) (push_last x nodes)

pub none_accepted : (c : Cluster) (tape : List Item) (op : OpId) (p : Place) (b : Ballot) (e : Content) → Accepters c tape op p b e []
none_accepted c tape op p b e = record { heard = λ voter h. cc; counted = omega arith }

pub one_more : (c : Cluster) (tape : List Item) (op : OpId) (p : Place) (b : Ballot) (e : Content) (from : ℕ) (those : List ℕ) → Accepters c tape op p b e those
    → Heard tape from op (Accepted op p.group p.position b e) → has from (voters c) ≡ true → has from those ≡ false → Accepters c tape op p b e (those ++ from ∷ [])
one_more c tape op p b e from those a heard is_voter is_new = record {
  heard = λ voter h. elim (has_push from voter those h) [ inl k ↦ a.heard voter k | inr same ↦ subst (λ v. Heard tape v op (Accepted op p.group p.position b e)) same heard ];
  counted = longer (length_push those from) a.counted (count_more (λ v. has v those) (λ v. has v (those ++ from ∷ [])) from (voters c) (λ v h. push_has from v those h) is_new (push_last from those) is_voter);
}
  where
    longer : {n m k l : ℕ} → n ≡ m + 1 → m ≤ k → k + 1 ≤ l → n ≤ l
    longer e le lt = omega arith

pub with_one : (c : Cluster) (tape : List Item) (op : OpId) (p : Place) (b : Ballot) (e : Content) (from : ℕ) (those : List ℕ) → Accepters c tape op p b e those
    → Heard tape from op (Accepted op p.group p.position b e) → has from (voters c) ≡ true → Accepters c tape op p b e (with_node from those)
with_one c tape op p b e from those a heard is_voter = go (has from those) refl
  where
    go : (t : Bool) → has from those ≡ t → Accepters c tape op p b e (cond t those (those ++ from ∷ []))
    go true h = a
    go false h = one_more c tape op p b e from those a heard is_voter h

pub chosen_by : (c : Cluster) (tape : List Item) (op : OpId) (p : Place) (b : Ballot) (e : Content) (those : List ℕ) → Accepters c tape op p b e those
    → is_majority (length (voters c)) (length those) ≡ true → Chosen c tape op p e
chosen_by c tape op p b e those a h = record {
  ballot = b;
  test = λ v. has v those;
  majority = majority_is (length (voters c)) (length those) (count (λ v. has v those) (voters c)) h a.counted;
  heard = a.heard;
}

-- reports

reported_push : (r : Report) (v : ℕ) (reports : List Report) → is_reported (reports ++ r ∷ []) v ≡ true → (is_reported reports v ≡ true) ⊎ (r.voter ≡ v)
reported_push r v [] h = elim (or_cases (r.voter == v) false h) [ inl e ↦ inr (number_is r.voter v e) | inr k ↦ cc ]
reported_push r v (one ∷ reports) h = elim (or_cases (one.voter == v) (is_reported (reports ++ r ∷ []) v) h) [
  | inl e ↦ inl (or_left (one.voter == v) (is_reported reports v) e)
  | inr k ↦ elim (reported_push r v reports k) [ inl j ↦ inl (or_right (one.voter == v) (is_reported reports v) j) | inr e ↦ inr e ]
]

push_reported : (r : Report) (v : ℕ) (reports : List Report) → is_reported reports v ≡ true → is_reported (reports ++ r ∷ []) v ≡ true
push_reported r v [] h = cc
push_reported r v (one ∷ reports) h = elim (or_cases (one.voter == v) (is_reported reports v) h) [
  | inl e ↦ or_left (one.voter == v) (is_reported (reports ++ r ∷ []) v) e
  | inr k ↦ or_right (one.voter == v) (is_reported (reports ++ r ∷ []) v) (push_reported r v reports k)
]

last_reported : (r : Report) (reports : List Report) → is_reported (reports ++ r ∷ []) r.voter ≡ true
last_reported r [] = or_left (r.voter == r.voter) false (number_self r.voter)
last_reported r (one ∷ reports) = or_right (one.voter == r.voter) (is_reported (reports ++ r ∷ []) r.voter) (last_reported r reports)

-- a voter that reported keeps its report
old_report : (r : Report) (v : ℕ) (reports : List Report) → is_reported reports v ≡ true → report_of (reports ++ r ∷ []) v ≡ report_of reports v
old_report r v [] h = cc
old_report r v (one ∷ reports) h = go (one.voter == v) h (old_report r v reports)
  where
    go : (t : Bool) → (t || is_reported reports v) ≡ true → (is_reported reports v ≡ true → report_of (reports ++ r ∷ []) v ≡ report_of reports v)
        → cond t one.vote (report_of (reports ++ r ∷ []) v) ≡ cond t one.vote (report_of reports v)
    go true k again = refl
    go false k again = again k

new_report : (r : Report) (reports : List Report) → is_reported reports r.voter ≡ false → report_of (reports ++ r ∷ []) r.voter ≡ r.vote
new_report r [] h = ap (λ t. cond t r.vote None) (number_self r.voter)
new_report r (one ∷ reports) h = go (one.voter == r.voter) h (new_report r reports)
  where
    go : (t : Bool) → (t || is_reported reports r.voter) ≡ false → (is_reported reports r.voter ≡ false → report_of (reports ++ r ∷ []) r.voter ≡ r.vote)
        → cond t one.vote (report_of (reports ++ r ∷ []) r.voter) ≡ r.vote
    go true k again = cc
    go false k again = again k

pub among_reported : (r : Report) (reports : List Report) → Among r reports → is_reported reports r.voter ≡ true
among_reported r [] i = absurd i
among_reported r (one ∷ reports) (inl e) = or_left (one.voter == r.voter) (is_reported reports r.voter) (ap (λ (x : Report). x.voter == r.voter) e ∙ number_self r.voter)
among_reported r (one ∷ reports) (inr i) = or_right (one.voter == r.voter) (is_reported reports r.voter) (among_reported r reports i)

pub among_push : (r one : Report) (reports : List Report) → Among one (reports ++ r ∷ []) → Among one reports ⊎ (r ≡ one)
among_push r one [] (inl e) = inr e
among_push r one [] (inr i) = absurd i
among_push r one (other ∷ reports) (inl e) = inl (inl e)
among_push r one (other ∷ reports) (inr i) = elim (among_push r one reports i) [ inl j ↦ inl (inr j) | inr e ↦ inr e ]

pub none_reported : (c : Cluster) (tape : List Item) (op : OpId) (p : Place) (b : Ballot) → Reported c tape op p b []
none_reported c tape op p b = record { heard = λ voter h. cc; only = λ report i. absurd i; counted = omega arith }

pub one_report : (c : Cluster) (tape : List Item) (op : OpId) (p : Place) (b : Ballot) (r : Report) (reports : List Report) → Reported c tape op p b reports
    → Heard tape r.voter op (Promise op p.group p.position b r.vote) → has r.voter (voters c) ≡ true → is_reported reports r.voter ≡ false → Reported c tape op p b (reports ++ r ∷ [])
one_report c tape op p b r reports a heard is_voter is_new = record {
  heard = λ voter h. hears voter (reported_push r voter reports h);
  only = λ one i. elim (among_push r one reports i) [
    | inl j ↦ old_report r one.voter reports (among_reported one reports j) ∙ a.only one j
    | inr same ↦ subst (λ (x : Report). report_of (reports ++ r ∷ []) x.voter ≡ x.vote) same (new_report r reports is_new)
  ];
  counted = longer (length_push reports r) a.counted (count_more (is_reported reports) (is_reported (reports ++ r ∷ [])) r.voter (voters c) (λ v h. push_reported r v reports h) is_new (last_reported r reports) is_voter);
}
  where
    longer : {n m k l : ℕ} → n ≡ m + 1 → m ≤ k → k + 1 ≤ l → n ≤ l
    longer e le lt = omega arith

    new_heard : (voter : ℕ) → r.voter ≡ voter → Heard tape voter op (Promise op p.group p.position b (report_of (reports ++ r ∷ []) voter))
    new_heard voter same = subst (λ v. Heard tape v op (Promise op p.group p.position b (report_of (reports ++ r ∷ []) v))) same
        (subst (λ vote. Heard tape r.voter op (Promise op p.group p.position b vote)) (sym (new_report r reports is_new)) heard)

    old_heard : (voter : ℕ) → is_reported reports voter ≡ true → Heard tape voter op (Promise op p.group p.position b (report_of (reports ++ r ∷ []) voter))
    old_heard voter k = subst (λ vote. Heard tape voter op (Promise op p.group p.position b vote)) (sym (old_report r voter reports k)) (a.heard voter k)

    hears : (voter : ℕ) → (is_reported reports voter ≡ true) ⊎ (r.voter ≡ voter) → Heard tape voter op (Promise op p.group p.position b (report_of (reports ++ r ∷ []) voter))
    hears voter (inl k) = old_heard voter k
    hears voter (inr same) = new_heard voter same

-- the greatest vote that was reported

pub record IsGreatest (vote : Vote) (reports : List Report) : Type 0 where
  pub report : Report
  pub among : Among report reports
  pub is_vote : report.vote ≡ Some vote
  pub most : (other : Report) (reported : Vote) → Among other reports → other.vote ≡ Some reported → is_ballot_below vote.0 reported.0 ≡ false

nothing_reported : (reports : List Report) → greatest_vote reports ≡ None → (report : Report) → Among report reports → report.vote ≡ None
nothing_reported [] h report i = absurd i
nothing_reported (one ∷ reports) h report i = go one.vote (greatest_vote reports) refl refl h i (λ k j. nothing_reported reports k report j)
  where
    less : (v w : Option Vote) → greater_vote v w ≡ None → (v ≡ None) × (w ≡ None)
    less None w k = (refl, k)
    less (Some v) None k = cc
    less (Some v) (Some w) k = both (is_ballot_below v.0 w.0) k
      where
        both : (t : Bool) → cond t (Some w) (Some v) ≡ None → (Some v ≡ None) × (Some w ≡ None)
        both true y = cc
        both false y = cc

    go : (v w : Option Vote) → one.vote ≡ v → greatest_vote reports ≡ w → greater_vote v w ≡ None → (one ≡ report) ⊎ Among report reports
        → (greatest_vote reports ≡ None → Among report reports → report.vote ≡ None) → report.vote ≡ None
    go v w a b k (inl e) again = ap (λ (x : Report). x.vote) (sym e) ∙ a ∙ (less v w k).0
    go v w a b k (inr j) again = again (b ∙ (less v w k).1) j

pub greatest_is : (reports : List Report) (vote : Vote) → greatest_vote reports ≡ Some vote → IsGreatest vote reports
greatest_is [] vote h = cc
greatest_is (one ∷ reports) vote h = go one.vote (greatest_vote reports) refl refl h (λ v k. greatest_is reports v k)
  where
    one_vote : (v : Option Vote) → one.vote ≡ v → (report : Report) → one ≡ report → report.vote ≡ v
    one_vote v a report e = ap (λ (x : Report). x.vote) (sym e) ∙ a

    later : (v w : Vote) → one.vote ≡ Some v → IsGreatest w reports → (t : Bool) → is_ballot_below v.0 w.0 ≡ t → cond t (Some w) (Some v) ≡ Some vote → IsGreatest vote (one ∷ reports)
    later v w a g true below k = subst (λ x. IsGreatest x (one ∷ reports)) (some_is w vote k) (record {
      report = g.report;
      among = inr g.among;
      is_vote = g.is_vote;
      most = λ other reported i e. elim i [
        | inl same ↦ let is = some_is v reported (sym (one_vote (Some v) a other same) ∙ e) in below_not reported.0 w.0 (subst (λ (x : Vote). is_ballot_below x.0 w.0 ≡ true) is below)
        | inr j ↦ g.most other reported j e
      ];
    })
    later v w a g false above k = subst (λ x. IsGreatest x (one ∷ reports)) (some_is v vote k) (record {
      report = one;
      among = inl refl;
      is_vote = a;
      most = λ other reported i e. elim i [
        | inl same ↦ let is = some_is v reported (sym (one_vote (Some v) a other same) ∙ e) in subst (λ (x : Vote). is_ballot_below v.0 x.0 ≡ false) is (at_most_self v.0)
        | inr j ↦ at_most_at_most reported.0 w.0 v.0 (g.most other reported j e) above
      ];
    })

    go : (v w : Option Vote) → one.vote ≡ v → greatest_vote reports ≡ w → greater_vote v w ≡ Some vote → ((x : Vote) → greatest_vote reports ≡ Some x → IsGreatest x reports) → IsGreatest vote (one ∷ reports)
    go None w a b k again = let g = again vote (b ∙ k) in record {
      report = g.report;
      among = inr g.among;
      is_vote = g.is_vote;
      most = λ other reported i e. elim i [ inl same ↦ (let clashing = sym (one_vote None a other same) ∙ e in cc) | inr j ↦ g.most other reported j e ];
    }
    go (Some v) None a b k again = subst (λ x. IsGreatest x (one ∷ reports)) (some_is v vote k) (record {
      report = one;
      among = inl refl;
      is_vote = a;
      most = λ other reported i e. elim i [
        | inl same ↦ let is = some_is v reported (sym (one_vote (Some v) a other same) ∙ e) in subst (λ (x : Vote). is_ballot_below v.0 x.0 ≡ false) is (at_most_self v.0)
        | inr j ↦ (let clashing = sym (nothing_reported reports b other j) ∙ e in cc)
      ];
    })
    go (Some v) (Some w) a b k again = later v w a (again w b) (is_ballot_below v.0 w.0) refl k

-- who reported has a report
record Source (reports : List Report) (voter : ℕ) : Type 0 where
  report : Report
  among : Among report reports
  is : report_of reports voter ≡ report.vote

source : (reports : List Report) (voter : ℕ) → is_reported reports voter ≡ true → Source reports voter
source [] voter h = cc
source (one ∷ reports) voter h = go (one.voter == voter) refl h (source reports voter)
  where
    go : (t : Bool) → (one.voter == voter) ≡ t → (t || is_reported reports voter) ≡ true → (is_reported reports voter ≡ true → Source reports voter) → Source (one ∷ reports) voter
    go true e k again = record { report = one; among = inl refl; is = ap (λ b. cond b one.vote (report_of reports voter)) e }
    go false e k again = let s = again k in record { report = s.report; among = inr s.among; is = ap (λ b. cond b one.vote (report_of reports voter)) e ∙ s.is }

-- the entry that is picked is the one that the reports carry
pub carried : (c : Cluster) (tape : List Item) (op : OpId) (p : Place) (b : Ballot) (reports : List Report) → Reported c tape op p b reports → (mine : Content)
    → Carries (is_reported reports) (report_of reports) (picked mine (greatest_vote reports))
carried c tape op p b reports a mine = go (greatest_vote reports) refl
  where
    go : (o : Option Vote) → greatest_vote reports ≡ o → Carries (is_reported reports) (report_of reports) (picked mine o)
    go None h = own (λ voter t. let s = source reports voter t in s.is ∙ nothing_reported reports h s.report s.among)
    go (Some vote) h = let g = greatest_is reports vote h in
        greatest (g.report).voter vote.0 (among_reported g.report reports g.among) (a.only g.report g.among ∙ g.is_vote)
        (λ other reported t e. let s = source reports other t in g.most s.report reported s.among (sym s.is ∙ e))
