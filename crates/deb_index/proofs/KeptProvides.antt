-- The canonical texts of entries of Provides, and of what is kept of a package.
use Rattle.std.proofs.Common.{◌≡◌, ℕ, ◌==◌, true, false, List, [], ◌∷◌, ◌++◌, length, map, codes, refl, sym, ap, ◌∙◌, append_assoc, append-nil}
use Rattle.std.specs.List.{flat_map}
use Rattle.deb_version.specs.Canonical.{version_text}
use Rattle.deb_version.specs.Places.{version_in}
use Rattle.deb_relation.proofs.Joining.{nil_of}
use Rattle.deb_relation.specs.Texts.{group_text, separated}
use Rattle.deb_syntax.specs.Meaning.{Entries}
use Rattle.deb_control.specs.Canonical.{field_text, paragraph_text}
use Rattle.deb_index.specs.Entries.{Places, provision_at, version_kept}
use Rattle.deb_index.specs.KeptEntries.{entry_text, later_entry}
use Rattle.deb_index.specs.KeptTexts.{entry_of, kept_text, multi_arch_entries, provides_entries}
use Rattle.deb_index.specs.Listed.{Listed}

-- without a version
pub text-bare : (name version : List ℕ) → (length version == 0) ≡ true → group_text (entry_of (record { name = name; version = version_kept version })) ≡ name
unfolding group_text
text-bare name version none =
    ap (λ v. group_text (entry_of (record { name = name; version = version_kept v }))) (nil_of version none)
    ∙ append-nil (name ++ []) ∙ append-nil name

-- with one
pub text-versioned : (name version : List ℕ) → (length version == 0) ≡ false → group_text (entry_of (record { name = name; version = version_kept version })) ≡ name ++ (codes " (= " ++ (version_text (version_in version) ++ codes ")"))
unfolding group_text
text-versioned name [] some = absurd (cc)
text-versioned name (b ∷ bs) some =
    let bound : List ℕ = codes " (= " ++ (version_text (version_in (b ∷ bs)) ++ codes ")") in
    append-nil (name ++ (bound ++ [])) ∙ ap (λ t. name ++ t) (append-nil bound)

-- what was appended piece by piece
pub four-appended : (o n s t p : List ℕ) → (((o ++ n) ++ s) ++ t) ++ p ≡ o ++ (n ++ (s ++ (t ++ p)))
four-appended o n s t p = simp append_assoc refl

-- the entries after the first one
pub texts-later : (text : List ℕ) (entries : List Places) → flat_map (later_entry text) entries ≡ separated (codes ", ") (map group_text (map entry_of (map (provision_at text) entries)))
texts-later text [] = refl
texts-later text (e ∷ more) =
    append_assoc (codes ", ") (entry_text text e) (flat_map (later_entry text) more)
    ∙ ap (λ l. codes ", " ++ (entry_text text e ++ l)) (texts-later text more)

paragraph-append : (entries others : Entries) → paragraph_text (entries ++ others) ≡ paragraph_text entries ++ paragraph_text others
paragraph-append [] others = refl
paragraph-append (entry ∷ more) others = ap (λ l. field_text entry ++ l) (paragraph-append more others) ∙ sym (append_assoc (field_text entry) (paragraph_text more) (paragraph_text others))

-- the fields of a package, one after another
pub fields-appended : (o : List ℕ) (p : Listed) → ((((o ++ field_text (codes "Architecture", p.architecture)) ++ paragraph_text (multi_arch_entries p.multi_arch)) ++ field_text (codes "Package", p.name)) ++ paragraph_text (provides_entries p.provisions)) ++ field_text (codes "Version", version_text p.version) ≡ o ++ kept_text p
fields-appended o p =
    let a = field_text (codes "Architecture", p.architecture) in
    let m = paragraph_text (multi_arch_entries p.multi_arch) in
    let n = field_text (codes "Package", p.name) in
    let q = paragraph_text (provides_entries p.provisions) in
    let v = field_text (codes "Version", version_text p.version) in
    four-appended (o ++ a) m n q v
    ∙ append_assoc o a (m ++ (n ++ (q ++ v)))
    ∙ ap (λ l. o ++ (a ++ (m ++ (n ++ (q ++ l))))) (sym (append-nil v))
    ∙ ap (λ l. o ++ (a ++ (m ++ (n ++ l)))) (sym (paragraph-append (provides_entries p.provisions) ((codes "Version", version_text p.version) ∷ [])))
    ∙ ap (λ l. o ++ (a ++ l)) (sym (paragraph-append (multi_arch_entries p.multi_arch) ((codes "Package", p.name) ∷ (provides_entries p.provisions ++ (codes "Version", version_text p.version) ∷ []))))
