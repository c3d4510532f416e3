-- Debian's order of versions: which of two versions is later.
-- deb-version(7), "Sorting algorithm"; Debian Policy 5.6.12.
use Rattle.std.specs.Prelude.{◌≡◌, ℕ, ◌+◌, ◌==◌, cond, List, [], ◌∷◌, ◌++◌, map, refl, codes}
use Rattle.std.specs.Char.{is_ascii_alphabetic}
use Rattle.std.specs.List.{range_with_len}
use Rattle.std.specs.Ordering.{nat_cmp, ordering_then}
use Rattle.std.specs.declared.cmp.Ordering.{Ordering}
use Rattle.std.specs.declared.cmp.Ordering.TheVariants.{Less, Equal, Greater}
use Rattle.deb_version.specs.Parts.{Part, Meaning, no_revision, parts_of}

-- two lists: the first index at which they differ decides, where the shorter list is continued by
-- `rest` without end
abbrev pub continued_cmp : {K : Type 0} → (K → K → Ordering) → K → List K → List K → Ordering
continued_cmp cmp rest [] [] = Equal
continued_cmp cmp rest [] (y ∷ ys) = ordering_then (cmp rest y) (continued_cmp cmp rest [] ys)
continued_cmp cmp rest (x ∷ xs) [] = ordering_then (cmp x rest) (continued_cmp cmp rest xs [])
continued_cmp cmp rest (x ∷ xs) (y ∷ ys) = ordering_then (cmp x y) (continued_cmp cmp rest xs ys)

-- the rank of the end of a text
abbrev pub end_rank : ℕ
end_rank = 1

-- the rank of a byte: tilde before the end of the text, then letters by their code, then all others
-- by their code
abbrev pub rank_of : ℕ → ℕ
rank_of b = cond (b == 126) 0 (cond (is_ascii_alphabetic b) (b + 1) (b + 257))

-- two texts without digits: the first offset whose ranks differ decides, where each one past the
-- end has the end's rank
abbrev pub text_cmp : List ℕ → List ℕ → Ordering
text_cmp a b = continued_cmp nat_cmp end_rank (map rank_of a) (map rank_of b)

-- two parts: by their texts first, then by their numbers
abbrev pub part_cmp : Part → Part → Ordering
part_cmp a b = ordering_then (text_cmp a.0 b.0) (nat_cmp a.1 b.1)

-- what continues the shorter of two lists of parts
abbrev pub empty_part : Part
empty_part = ([], 0)

-- two upstream versions, or two revisions: the first parts that differ decide
abbrev pub component_cmp : List Part → List Part → Ordering
component_cmp a b = continued_cmp part_cmp empty_part a b

-- two versions: by epoch, then by upstream version, then by revision
abbrev pub version_cmp : Meaning → Meaning → Ordering
version_cmp a b =
    ordering_then (nat_cmp a.epoch b.epoch)
    (ordering_then (component_cmp a.upstream b.upstream) (component_cmp a.revision b.revision))

-- tilde is before the end, the end before letters, letters before the rest
worked-tilde : text_cmp (codes "~") [] ≡ Less
worked-tilde = refl

worked-tildes : text_cmp (codes "~~") (codes "~~a") ≡ Less
worked-tildes = refl

worked-tilde-letter : text_cmp (codes "~~a") (codes "~") ≡ Less
worked-tilde-letter = refl

worked-letter : text_cmp [] (codes "a") ≡ Less
worked-letter = refl

worked-rest : text_cmp (codes "z") (codes "+") ≡ Less
worked-rest = refl

-- letters by their code, so capital ones first; bytes that are no letters by theirs; `:`, `@`, `[`,
-- `` ` `` and `{` are beside the letters and are none
worked-capital : text_cmp (codes "Z") (codes "a") ≡ Less
worked-capital = refl

worked-capitals : text_cmp (codes "A") (codes "Z") ≡ Less
worked-capitals = refl

worked-others : text_cmp (codes "+") (codes "-") ≡ Less
worked-others = refl

worked-beside_letters : map (λ b. text_cmp (codes "z") (b ∷ [])) (codes "@[`{") ≡ Less ∷ Less ∷ Less
    ∷ Less ∷ []
worked-beside_letters = refl

worked-ranks : map rank_of (codes "~AZaz+") ≡ 0 ∷ 66 ∷ 91 ∷ 98 ∷ 123 ∷ 300 ∷ []
worked-ranks = refl

-- each byte of an upstream version that is no digit, ascending by its rank
worked-all_ranks : map rank_of
    (codes "~ABCDEFGHIJKLMNOPQRSTUVWXYZabcdefghijklmnopqrstuvwxyz+-.:")
    ≡ 0 ∷ range_with_len 66 26 ++ (range_with_len 98 26 ++ 300 ∷ 302 ∷ 303 ∷ 315 ∷ [])
worked-all_ranks = refl

worked-same : text_cmp (codes "a+") (codes "a+") ≡ Equal
worked-same = refl

-- two versions of epoch 0 without revision
abbrev upstream_cmp : List ℕ → List ℕ → Ordering
upstream_cmp a b =
    version_cmp (record { epoch = 0; upstream = parts_of a; revision = no_revision })
    (record { epoch = 0; upstream = parts_of b; revision = no_revision })

-- 1~~ before 1~~a before 1~ before 1 before 1a before 1+
worked-1~~ : upstream_cmp (codes "1~~") (codes "1~~a") ≡ Less
worked-1~~ = refl

worked-1~~a : upstream_cmp (codes "1~~a") (codes "1~") ≡ Less
worked-1~~a = refl

worked-1~ : upstream_cmp (codes "1~") (codes "1") ≡ Less
worked-1~ = refl

worked-1 : upstream_cmp (codes "1") (codes "1a") ≡ Less
worked-1 = refl

worked-1a : upstream_cmp (codes "1a") (codes "1+") ≡ Less
worked-1a = refl

-- 1Z before 1a
worked-1Z : upstream_cmp (codes "1Z") (codes "1a") ≡ Less
worked-1Z = refl

-- 1.01 and 1.1 are equal, and so are 1a and 1a00; 1 is earlier than 1.0, and 1.9 than 1.10
worked-01 : upstream_cmp (codes "1.01") (codes "1.1") ≡ Equal
worked-01 = refl

worked-1a00 : upstream_cmp (codes "1a00") (codes "1a") ≡ Equal
worked-1a00 = refl

worked-zero : upstream_cmp (codes "1") (codes "1.0") ≡ Less
worked-zero = refl

worked-ten : upstream_cmp (codes "1.9") (codes "1.10") ≡ Less
worked-ten = refl

-- 1.0~rc1 before 1.0~rc1-1 before 1.0; 1.0 and 1.0-0 are equal; the epoch goes first
abbrev meaning : ℕ → List ℕ → List Part → Meaning
meaning epoch upstream revision =
    record { epoch = epoch; upstream = parts_of upstream; revision = revision }

worked-revision : version_cmp (meaning 0 (codes "1.0~rc1") no_revision)
    (meaning 0 (codes "1.0~rc1") (parts_of (codes "1"))) ≡ Less
worked-revision = refl

worked-upstream : version_cmp (meaning 0 (codes "1.0~rc1") (parts_of (codes "1")))
    (meaning 0 (codes "1.0") no_revision) ≡ Less
worked-upstream = refl

worked-no_revision : version_cmp (meaning 0 (codes "1.0") no_revision)
    (meaning 0 (codes "1.0") (parts_of (codes "0"))) ≡ Equal
worked-no_revision = refl

worked-epoch : version_cmp (meaning 0 (codes "a") no_revision) (meaning 1 (codes "0") no_revision)
    ≡ Less
worked-epoch = refl

-- 00:1:02-0 before 1:2
worked-colon : version_cmp (meaning 0 (codes "1:02") (parts_of (codes "0")))
    (meaning 1 (codes "2") no_revision) ≡ Less
worked-colon = refl

-- the number of a part goes after its text, the revision after the upstream version
worked-text_first : version_cmp (meaning 0 (codes "a9") no_revision)
    (meaning 0 (codes "b1") no_revision) ≡ Less
worked-text_first = refl

worked-upstream_first : version_cmp (meaning 0 (codes "1") (parts_of (codes "9")))
    (meaning 0 (codes "2") no_revision) ≡ Less
worked-upstream_first = refl

-- epochs are numbers, and go before all else
worked-epochs : version_cmp (meaning 9 (codes "z") no_revision) (meaning 10 (codes "a") no_revision)
    ≡ Less
worked-epochs = refl

-- numbers within revisions are compared as such, and a tilde in a revision comes before its end
worked-revisions : (version_cmp (meaning 0 (codes "1") (parts_of (codes "9")))
    (meaning 0 (codes "1") (parts_of (codes "10"))) ≡ Less)
    × (version_cmp (meaning 0 (codes "1") (parts_of (codes "1~bpo1")))
    (meaning 0 (codes "1") (parts_of (codes "1"))) ≡ Less)
    × (version_cmp (meaning 0 (codes "1") (parts_of (codes "~")))
    (meaning 0 (codes "1") no_revision) ≡ Less)
worked-revisions = (refl, refl, refl)

-- the order the other way round
worked-greater : (upstream_cmp (codes "1") (codes "1~") ≡ Greater)
    × (upstream_cmp (codes "1.10") (codes "1.9") ≡ Greater)
    × (upstream_cmp (codes "1+") (codes "1a") ≡ Greater)
    × (upstream_cmp (codes "1.0") (codes "1") ≡ Greater)
    × (upstream_cmp (codes "b1") (codes "a9") ≡ Greater)
worked-greater = (refl, refl, refl, refl, refl)

-- the first part that differs decides, wherever it is
worked-third_part : upstream_cmp (codes "1.2.9.0") (codes "1.2.10") ≡ Less
worked-third_part = refl

worked-long_numbers : upstream_cmp (codes "2") (codes "18446744073709551617") ≡ Less
worked-long_numbers = refl
