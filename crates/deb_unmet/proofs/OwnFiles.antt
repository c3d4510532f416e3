-- What is known of the lines of a file over its own packages that were written so far, and at their
-- end.
use Rattle.std.proofs.Common.{inl, inr, ◌≡◌, ℕ, ◌+◌, ◌<◌, ◌≤◌, Bool, true, false, cond, ◌&&◌, List, [], ◌∷◌, ◌++◌, drop, get_or, length, Option, Result, Ok, Err, Some, refl, sym, ap, ◌∙◌, subst, append_assoc, append-nil, arith, drop_of_length-le}
use Rattle.std.proofs.lemmas.List.{drop_more, length_push}
use Rattle.std.proofs.KnownBytes.{Appends-nil, Appends-trans}
use Rattle.std.specs.List.{filter}
use Rattle.std.specs.Io.KnownBytes.{Appends}
use Rattle.deb_base.specs.Devices.{AppendsFront, WriteFaultIffFailed, read_failures_after, write_failures_after}
use Rattle.deb_base.specs.Faults.{IsReadersFault}
use Rattle.deb_base.specs.declared.fault.Fault.{Fault}
use Rattle.deb_base.specs.declared.fault.Fault.TheVariants.{Refused, Memory, Read, Write}
use Rattle.deb_base.specs.declared.refusal.Refusal.{Refusal}
use Rattle.deb_base.proofs.Writes.{AppendsFront-more, AppendsFront-then}
use Rattle.deb_syntax.specs.Answers.{Seen, next_answer}
use Rattle.deb_syntax.specs.Fields.{Field}
use Rattle.deb_field.specs.Values.{ValueMeaning}
use Rattle.deb_control.specs.Calls.{IfRefused}
use Rattle.deb_control.specs.Documents.{Meaning, Accepted}
use Rattle.deb_control.specs.GivenParagraphs.{AreNext}
use Rattle.deb_control.specs.Pairs.{Pairwise}
use Rattle.deb_control.specs.Paragraphs.{AreValuesOf}
use Rattle.deb_control.specs.ValueFiles.{ValueEntries}
use Rattle.deb_control.proofs.GivenValues.{pairwise-length, pairwise-push}
use Rattle.deb_index.specs.Keeping.{KeepsAll}
use Rattle.deb_index.specs.Listed.{Listed}
use Rattle.deb_index.specs.Members.{KeepsMembers, doc_of, has_values}
use Rattle.deb_index.specs.declared.members.Members.{Members}
use Rattle.deb_index.specs.declared.members.Members.TheVariants.{All, Installed}
use Rattle.deb_index.proofs.Filters.{filter-skips, filter-takes}
use Rattle.deb_unmet.specs.Asking.{IsWritersFault, PutsLines}
use Rattle.deb_unmet.specs.Files.{is_nothing}
use Rattle.deb_unmet.specs.Own.{OwnAsks, StopsOwn, WritesOwn, counted, own_lines, part_lines, parts_from}
use Rattle.deb_unmet.specs.Parts.{AreParts, HoldsPart, IsPart, ReadsOver, is_of_member}
use Rattle.deb_unmet.specs.Spelled.{fields_after, fields_of_seen}
use Rattle.deb_unmet.specs.declared.own_lines.Part.{Part}
use Rattle.deb_unmet.specs.declared.own_lines.Part.TheVariants.{Member, Other}
use Rattle.deb_unmet.proofs.AskedFiles.{nothing-both}

-- what a call that only writes answers of reads, refusals and writes
pub unrefused : {T : Type 0} (r : Result T Fault) (P : Refusal → Type 0) → IsWritersFault r → IfRefused r P
unrefused (Ok x) P is = tt
unrefused (Err (Refused refusal)) P is = absurd is
unrefused (Err Memory) P is = tt
unrefused (Err Read) P is = absurd is
unrefused (Err Write) P is = tt

pub unread : {T : Type 0} (n : ℕ) (r : Result T Fault) → IsWritersFault r → read_failures_after n r ≡ n
unread n (Ok x) is = refl
unread n (Err (Refused refusal)) is = absurd is
unread n (Err Memory) is = refl
unread n (Err Read) is = absurd is
unread n (Err Write) is = refl

pub write_told : {T : Type 0} (old new : ℕ) (r : Result T Fault) → new ≡ write_failures_after old r → WriteFaultIffFailed old new r
write_told old new (Ok x) is = λ below. (λ e. absurd cc, λ less. absurd (omega (arith, is, less)))
write_told old new (Err (Refused refusal)) is = λ below. (λ e. absurd cc, λ less. absurd (omega (arith, is, less)))
write_told old new (Err Memory) is = λ below. (λ e. absurd cc, λ less. absurd (omega (arith, is, less)))
write_told old new (Err Read) is = λ below. (λ e. absurd cc, λ less. absurd (omega (arith, is, less)))
write_told old new (Err Write) is = λ below. (λ e. omega (arith, is, below), λ less. refl)

-- a fault of the reader comes before anything is written
pub unstarted : (fault : Fault) (P : Refusal → Type 0) (own : OwnAsks) (text : List ℕ) (held : Option (List ℕ)) → IsReadersFault fault P → StopsOwn fault own text held held
unstarted (Refused refusal) P own text held is = refl
unstarted Memory P own text held is = inl refl
unstarted Read P own text held is = refl
unstarted Write P own text held is = absurd is

-- what is kept of all paragraphs
pub all_kept : (members : Members) (Keeps : List Seen → Type 0) (text : List ℕ) → KeepsMembers members Keeps text → KeepsAll (doc_of members) Keeps text
all_kept All Keeps text keeps = keeps
all_kept Installed Keeps text keeps = keeps.all

-- nothing is kept of no paragraph
pub none_given : (members : Members) {Kept : Type 0} (Holds : List Field → ValueEntries ValueMeaning → Kept → Type 0) (IsText : ValueEntries ValueMeaning → List ℕ → Type 0) (parts : List (Part Kept)) → parts ≡ [] → AreParts members Holds IsText parts []
none_given members Holds IsText parts is = subst (λ p. AreParts members Holds IsText p []) (sym is) tt

-- the next one after those that were given
next-at : (text : List ℕ) (n : ℕ) (done : List Seen) (seen : Seen) (more : List Seen) (m : ℕ) → m ≡ n + length done → AreNext text n (done ++ seen ∷ more) → next_answer text m ≡ Ok (Some seen)
next-at text n [] seen more m is next = ap (next_answer text) (omega (arith, is)) ∙ next.0
next-at text n (first ∷ done) seen more m is next = next-at text (n + 1) done seen more m (omega (arith, is)) next.1

pairwise-append : {A B : Type 0} (R : A → B → Type 0) (xs more : List A) (ys others : List B) → Pairwise R xs ys → Pairwise R more others → Pairwise R (xs ++ more) (ys ++ others)
pairwise-append R [] more [] others are rest = rest
pairwise-append R [] more (y ∷ ys) others are rest = absurd are
pairwise-append R (x ∷ xs) more [] others are rest = absurd are
pairwise-append R (x ∷ xs) more (y ∷ ys) others are rest = (are.0, pairwise-append R xs more ys others are.1 rest)

-- how many of a list pass a test
count-first : {X : Type 0} (test : X → Bool) (x : X) (xs : List X) (k m : ℕ) (t : Bool) → test x ≡ t → m ≡ k + length (filter test (x ∷ xs)) → m ≡ cond t (k + 1) k + length (filter test xs)
count-first test x xs k m true is long =
    let one : length (filter test (x ∷ xs)) ≡ length (x ∷ filter test xs) = ap (λ b. length (cond b (x ∷ filter test xs) (filter test xs))) is in
    omega (arith, long, one)
count-first test x xs k m false is long = long ∙ ap (λ b. k + length (cond b (x ∷ filter test xs) (filter test xs))) is

count-last : {X : Type 0} (test : X → Bool) (xs : List X) (x : X) (t : Bool) → test x ≡ t → length (filter test (xs ++ x ∷ [])) ≡ cond t (length (filter test xs) + 1) (length (filter test xs))
count-last test xs x true is = ap length (filter-takes test xs x is) ∙ length_push (filter test xs) x
count-last test xs x false is = ap length (filter-skips test xs x is)

pub count-within : (t : Bool) (k n now : ℕ) → now ≡ cond t (k + 1) k → k ≤ n → now ≤ n + 1
count-within true k n now is within = omega (arith, is, within)
count-within false k n now is within = omega (arith, is, within)

-- the lines of more paragraphs
parts-append : (own : OwnAsks) (packages : List Listed) (text : List ℕ) (n k : ℕ) (first more : Meaning) (i j : ℕ) → i ≡ n + length first → j ≡ k + length (filter (has_values own.members) first) → parts_from own packages text n k (first ++ more) ≡ parts_from own packages text n k first ++ parts_from own packages text i j more
parts-append own packages text n k [] more i j long count =
    ap (λ a. parts_from own packages text a k more) (omega (arith, long)) ∙ ap (λ b. parts_from own packages text i b more) (omega (arith, count))
parts-append own packages text n k (v ∷ first) more i j long count =
    ap (λ l. part_lines own packages (fields_after text n) n k v ++ l)
    (parts-append own packages text (n + 1) (counted own.members k v) first more i j (omega (arith, long)) (count-first (has_values own.members) v first k j (has_values own.members v) refl count))
    ∙ sym (append_assoc (part_lines own packages (fields_after text n) n k v) (parts_from own packages text (n + 1) (counted own.members k v) first) (parts_from own packages text i j more))

module _ (own : OwnAsks) (packages : List Listed) {Kept : Type 0} (Holds : List Field → ValueEntries ValueMeaning → Kept → Type 0) (IsText : ValueEntries ValueMeaning → List ℕ → Type 0) where
  abbrev pub Kept_of : List (Part Kept) → List Seen → Type 0
  Kept_of = AreParts own.members Holds IsText

  abbrev Meant : List Seen → Meaning → Type 0
  Meant = Pairwise (AreValuesOf (doc_of own.members))

  -- values of paragraphs of which something is kept
  part_values : (given : List Seen) (parts : List (Part Kept)) → Kept_of parts given → (values : Meaning) × Meant given values
  part_values [] [] are = ([], tt)
  part_values [] (part ∷ parts) are = absurd are
  part_values (seen ∷ given) [] are = absurd are
  part_values (seen ∷ given) (part ∷ parts) are =
      let more = part_values given parts are.1 in
      (are.0.values ∷ more.0, (are.0.are, more.1))

  is_member : (fields : List Field) (values : ValueEntries ValueMeaning) (part : Part Kept) → HoldsPart own.members Holds IsText fields values part → has_values own.members values ≡ is_of_member part
  is_member fields values (Member kept) holds = holds.0
  is_member fields values (Other text) holds = holds.0

  module _ (parts : List (Part Kept)) (text : List ℕ) (old : Option (List ℕ)) (reads : ReadsOver own (Kept_of parts) text packages) where
    pub keeps : KeepsAll (doc_of own.members) (Kept_of parts) text
    keeps = all_kept own.members (Kept_of parts) text reads.keeps

    abbrev lines : Meaning → List ℕ
    lines = own_lines own packages text

    -- The lines of so many paragraphs were written, of which so many are members, and these are left.
    pub record HasOwn (held : Option (List ℕ)) (empty : Bool) (n k : ℕ) : Type 0 where
      pub done : List Seen
      pub more : List Seen
      pub all : keeps.given ≡ done ++ more
      pub first : Meaning
      pub are : Meant done first
      pub long : length first ≡ n
      pub count : length (filter (has_values own.members) first) ≡ k
      pub written : Appends old held (lines first)
      pub is_empty : empty ≡ is_nothing (lines first)
      pub left : Kept_of (drop n parts) more

    pub none_own : HasOwn old true 0 0
    none_own = record {
      done = [];
      more = keeps.given;
      all = refl;
      first = [];
      are = tt;
      long = refl;
      count = refl;
      written = Appends-nil old;
      is_empty = refl;
      left = keeps.keeps;
    }

    module _ {held : Option (List ℕ)} {empty : Bool} {n k : ℕ} (has : HasOwn held empty n k) where
      -- the next one, and those after it
      pub record NextOwn (part : Part Kept) : Type 0 where
        pub seen : Seen
        pub after : List Seen
        pub more_is : has.more ≡ seen ∷ after
        pub is : IsPart own.members Holds IsText seen part
        pub left : Kept_of (drop (n + 1) parts) after

      pub next_own : (part : Part Kept) → n < length parts → part ≡ get_or parts n part → NextOwn part
      next_own part within is = go has.more refl (subst (λ l. Kept_of l has.more) (drop_more parts n part within ∙ ap (λ p. p ∷ drop (n + 1) parts) (sym is)) has.left)
        where
          go : (more : List Seen) → has.more ≡ more → Kept_of (part ∷ drop (n + 1) parts) more → NextOwn part
          go [] more_is left = absurd left
          go (seen ∷ after) more_is left = record { seen = seen; after = after; more_is = more_is; is = left.0; left = left.1 }

      module _ {part : Part Kept} (next : NextOwn part) where
        abbrev line : List ℕ
        line = part_lines own packages next.seen.fields n k next.is.values

        all_is : keeps.given ≡ has.done ++ next.seen ∷ next.after
        all_is = has.all ∙ ap (λ l. has.done ++ l) next.more_is

        fields_are : fields_after text n ≡ next.seen.fields
        fields_are =
            let many = pairwise-length (AreValuesOf (doc_of own.members)) has.done has.first has.are in
            ap fields_of_seen (next-at text 0 has.done next.seen next.after n (omega (arith, many, has.long)) (subst (AreNext text 0) all_is keeps.next))

        -- its lines come after the others
        lines_with : (others : Meaning) → lines (has.first ++ next.is.values ∷ others) ≡ lines has.first ++ (line ++ parts_from own packages text (n + 1) (counted own.members k next.is.values) others)
        lines_with others =
            parts-append own packages text 0 0 has.first (next.is.values ∷ others) n k (omega (arith, has.long)) (omega (arith, has.count))
            ∙ ap (λ f. lines has.first ++ (part_lines own packages f n k next.is.values ++ parts_from own packages text (n + 1) (counted own.members k next.is.values) others)) fields_are

        pub one_own : (writes : Option (List ℕ)) (one all : Bool) (now : ℕ) → PutsLines line (Ok one) held writes → all ≡ (empty && one) → now ≡ cond (is_of_member part) (k + 1) k → HasOwn writes all (n + 1) now
        one_own writes one all now puts all_empty now_is =
            let values = next.is.values in
            let lines_one : lines (has.first ++ values ∷ []) ≡ lines has.first ++ line = lines_with [] ∙ ap (λ l. lines has.first ++ l) (append-nil line) in
            let member = is_member next.seen.fields values part next.is.holds in
            record {
              done = has.done ++ next.seen ∷ [];
              more = next.after;
              all = all_is ∙ sym (append_assoc has.done (next.seen ∷ []) next.after);
              first = has.first ++ values ∷ [];
              are = pairwise-push (AreValuesOf (doc_of own.members)) has.done has.first next.seen values has.are next.is.are;
              long = length_push has.first values ∙ ap (λ m. m + 1) has.long;
              count = count-last (has_values own.members) has.first values (is_of_member part) member ∙ ap (λ c. cond (is_of_member part) (c + 1) c) has.count ∙ sym now_is;
              written = subst (Appends old writes) (sym lines_one) (Appends-trans old held writes _ _ has.written puts.0);
              is_empty = all_empty ∙ ap (λ b. b && one) has.is_empty ∙ ap (λ b. is_nothing (lines has.first) && b) puts.1
                  ∙ sym (nothing-both (lines has.first) line) ∙ ap is_nothing (sym lines_one);
              left = next.left;
            }

        -- the whole file, with values of the paragraphs that are left
        rest : (others : Meaning) × Meant next.after others
        rest = part_values next.after (drop (n + 1) parts) next.left

        accepted : Accepted (doc_of own.members) text (has.first ++ next.is.values ∷ rest.0)
        accepted =
            keeps.accepted (has.first ++ next.is.values ∷ rest.0)
            (subst (λ g. Meant g (has.first ++ next.is.values ∷ rest.0)) (sym all_is)
            (pairwise-append (AreValuesOf (doc_of own.members)) has.done (next.seen ∷ next.after) has.first (next.is.values ∷ rest.0) has.are (next.is.are, rest.1)))

        pub stopped_own : (writes : Option (List ℕ)) (fault : Fault) → PutsLines line (Err fault) held writes → StopsOwn fault own text old writes
        stopped_own writes (Refused refusal) puts = absurd puts
        stopped_own writes Read puts = absurd puts
        stopped_own writes Memory puts =
            inr (record {
              packages = reads.listed;
              lists = reads.lists;
              first = has.first;
              more = next.is.values ∷ rest.0;
              accepted = accepted;
              written = subst (λ ps. Appends old writes (own_lines own ps text has.first)) reads.over (subst (λ now. Appends old now (lines has.first)) puts has.written);
            })
        stopped_own writes Write puts =
            let others = parts_from own packages text (n + 1) (counted own.members k next.is.values) rest.0 in
            record {
              packages = reads.listed;
              lists = reads.lists;
              meaning = has.first ++ next.is.values ∷ rest.0;
              accepted = accepted;
              written = subst (λ ps. AppendsFront old writes (own_lines own ps text (has.first ++ next.is.values ∷ rest.0))) reads.over (subst (AppendsFront old writes) (sym (lines_with rest.0)) (AppendsFront-then old held writes _ _ has.written (AppendsFront-more held writes line others puts)));
            }

      -- there is no further paragraph
      pub end_own : length parts ≤ n → WritesOwn own text (record { paragraphs = k; is_empty = empty }) old held
      end_own past = record {
        packages = reads.listed;
        lists = reads.lists;
        meaning = has.first;
        accepted = keeps.accepted has.first (subst (λ g. Meant g has.first) (sym (has.all ∙ ap (λ l. has.done ++ l) none_left ∙ append-nil has.done)) has.are);
        count = has.count;
        written = subst (λ ps. Appends old held (own_lines own ps text has.first)) reads.over has.written;
        is_empty = has.is_empty ∙ ap (λ ps. is_nothing (own_lines own ps text has.first)) reads.over;
      }
        where
          go : (more : List Seen) → Kept_of [] more → more ≡ []
          go [] left = refl
          go (seen ∷ more) left = absurd left

          none_left : has.more ≡ []
          none_left = go has.more (subst (λ l. Kept_of l has.more) (drop_of_length-le parts past) has.left)
