-- The start of a run, by what was read of its input.
use Rattle.std.proofs.Common.{◌≡◌, ℕ, Bool, true, false, Option, Some, None, Result, Ok, Err, List, [], ◌∷◌, refl, sym, ◌∙◌, ap, subst}
use Rattle.std.specs.Io.KnownBytes.{prepend_known}
use Rattle.std.proofs.KnownBytes.{prepend_known-nil}
use Rattle.mega_cluster.specs.declared.cluster.Cluster.{Cluster}
use Rattle.mega_cluster.specs.Header.{read_of}
use Rattle.mega_io.specs.TextLines.{lines_of}
use Rattle.mega_header.specs.Parts.{cluster_in, header_before, lines_behind}
use Rattle.mega_header.specs.Known.{AreParted, Breaks, HasHeader, HasNoMark, IfKnown}
use Rattle.mega_two_words.specs.declared.last.Last.{Last}
use Rattle.mega_two_words.specs.declared.last.Last.TheVariants.{Header}
use Rattle.mega_two_words.specs.declared.start.Start.{Start}
use Rattle.mega_two_words.specs.Inputs.{starts, starts_with, told_in, with_cluster}

headed : (least : ℕ) (first : List ℕ) (text : List ℕ) (left : List (List ℕ)) (c : Cluster) → AreParted text (lines_of first) left → read_of least text ≡ Ok c → cluster_in least first ≡ Ok c
headed least first text left c parted reads =
    ap (λ (behind : Option (List (List ℕ))). read_of least (header_before first (lines_of first) behind)) parted.1 ∙ ap (read_of least) parted.0 ∙ reads

all_headed : (least : ℕ) (first : List ℕ) (text : List ℕ) (c : Cluster) → HasNoMark (Some first) text → read_of least text ≡ Ok c → cluster_in least first ≡ Ok c
all_headed least first text c none reads =
    ap (λ (behind : Option (List (List ℕ))). read_of least (header_before first (lines_of first) behind)) none.1 ∙ ap (read_of least) none.0 ∙ reads

-- the parts of an input are these
parts_are : (least : ℕ) (name : Option (List ℕ)) (input : List ℕ) (header : Result Cluster ℕ) (lines : Option (List (List ℕ))) → cluster_in least input ≡ header → lines_behind (lines_of input) ≡ lines
    → starts_with name header lines ≡ starts least name input
parts_are least name input header lines heads behind =
    sym (ap (λ (h : Result Cluster ℕ). starts_with name h (lines_behind (lines_of input))) heads ∙ ap (starts_with name header) behind)

marked_start : (least : ℕ) (name : Option (List ℕ)) (first left : Option (List ℕ)) (c : Cluster) (text : List ℕ) (r : Result Start Last) → read_of least text ≡ Ok c → HasHeader first left text
    → IfKnown left (λ left. r ≡ with_cluster c (told_in c name (Some (lines_of left)))) → IfKnown first (λ input. r ≡ starts least name input)
marked_start least name None left c text r reads header told = tt
marked_start least name (Some first) None c text r reads header told = absurd header
marked_start least name (Some first) (Some left) c text r reads header told =
    told ∙ parts_are least name first (Ok c) (Some (lines_of left)) (headed least first text (lines_of left) c header.0 reads) header.0.1

unmarked_start : (least : ℕ) (name : Option (List ℕ)) (first : Option (List ℕ)) (c : Cluster) (text : List ℕ) (r : Result Start Last) → read_of least text ≡ Ok c → HasNoMark first text
    → r ≡ with_cluster c (told_in c name None) → IfKnown first (λ input. r ≡ starts least name input)
unmarked_start least name None c text r reads none told = tt
unmarked_start least name (Some first) c text r reads none told = told ∙ parts_are least name first (Ok c) None (all_headed least first text c none reads) none.1

broken_start : (least : ℕ) (name : Option (List ℕ)) (first : Option (List ℕ)) (rule : ℕ) (r : Result Start Last) → Breaks least first rule → r ≡ Err (Header rule) → IfKnown first (λ input. r ≡ starts least name input)
broken_start least name None rule r breaks is = tt
broken_start least name (Some first) rule r breaks is = is ∙ parts_are least name first (Err rule) (lines_behind (lines_of first)) breaks refl

-- ---- a reader that has read nothing yet

known_is : (reader : List ℕ) (known : Option (List ℕ)) → reader ≡ [] → prepend_known reader known ≡ known
known_is reader known none = ap (λ (xs : List ℕ). prepend_known xs known) none ∙ prepend_known-nil known

pub started : (least : ℕ) (name : Option (List ℕ)) (reader : List ℕ) (known left : Option (List ℕ)) (c : Cluster) (marked : Bool) (r : Result Start Last) → reader ≡ []
    → (marked ≡ true → (text : List ℕ) × (read_of least text ≡ Ok c) × HasHeader (prepend_known reader known) left text)
    → (marked ≡ false → (text : List ℕ) × (read_of least text ≡ Ok c) × HasNoMark (prepend_known reader known) text)
    → (marked ≡ true → IfKnown left (λ left. r ≡ with_cluster c (told_in c name (Some (lines_of left))))) → (marked ≡ false → r ≡ with_cluster c (told_in c name None))
    → IfKnown known (λ input. r ≡ starts least name input)
started least name reader known left c true r none there missing told untold =
    let found = there refl in
    subst (λ (first : Option (List ℕ)). IfKnown first (λ input. r ≡ starts least name input)) (known_is reader known none) (marked_start least name (prepend_known reader known) left c found.0 r found.1 found.2 (told refl))
started least name reader known left c false r none there missing told untold =
    let found = missing refl in
    subst (λ (first : Option (List ℕ)). IfKnown first (λ input. r ≡ starts least name input)) (known_is reader known none) (unmarked_start least name (prepend_known reader known) c found.0 r found.1 found.2 (untold refl))

pub broken : (least : ℕ) (name : Option (List ℕ)) (reader : List ℕ) (known : Option (List ℕ)) (rule : ℕ) (r : Result Start Last) → reader ≡ [] → Breaks least (prepend_known reader known) rule → r ≡ Err (Header rule)
    → IfKnown known (λ input. r ≡ starts least name input)
broken least name reader known rule r none breaks is =
    subst (λ (first : Option (List ℕ)). IfKnown first (λ input. r ≡ starts least name input)) (known_is reader known none) (broken_start least name (prepend_known reader known) rule r breaks is)
