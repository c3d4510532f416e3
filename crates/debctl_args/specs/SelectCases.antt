-- Worked cases of what the words of `select` ask.
use Rattle.std.specs.Prelude.{◌≡◌, List, [], map, ◌∷◌, Option, Some, None, true, false, codes, refl}
use Rattle.clap.proofs.OnLiterals.{clap_on_literals}
use Rattle.clap.specs.Faults.{fault_of}
use Rattle.clap.specs.Walk.{Text}
use Rattle.clap.specs.declared.error.kind.ErrorKind.TheVariants as kind
use Rattle.debctl_args.specs.Asked.{asked_of, asks, count_alone, fields_of_jsonl, no_field_name, other_format, standard_input_twice, strict_of_table, table_of_fields, unknown_kind, Asked}
use Rattle.debctl_args.specs.AskedWords.{form_asked, kind_asked}
use Rattle.debctl_args.specs.Commands.{debctl_app}
use Rattle.debctl_args.specs.Requests.{selects, wants, AskedSelect}
use Rattle.deb_base.specs.declared.doc.Doc.TheVariants.{Any, Binary, Packages, Source, Sources, Status}
use Rattle.debctl_args.specs.declared.jobs.OnRefusal.TheVariants.{Stop, Continue}
use Rattle.debctl_args.specs.declared.jobs.Picks.TheVariants.{Matching, Others}
use Rattle.debctl_args.specs.declared.jobs.SelectForm.TheVariants.{Control, Table, Jsonl}

-- the program's name, `select`, and the arguments after it
abbrev select_line : List Text → List Text
select_line words = codes "debctl" ∷ codes "select" ∷ words

abbrev asked_with : List Text → Option Asked
asked_with words = asked_of (select_line words)

abbrev asks_for : AskedSelect → Option Asked
asks_for select = Some (asks (wants (selects select)))

-- all paragraphs of the packages in standard input
abbrev all_of_input : AskedSelect
all_of_input = record {
  kind = Packages;
  conditions = [];
  picks = Matching;
  on_refusal = Stop;
  fields = [];
  form = Control;
  strict = false;
  count = false;
  paths = [];
}

select_of_files : map asked_with
    ([] ∷ (codes "x" ∷ []) ∷ (codes "y" ∷ codes "-" ∷ codes "x" ∷ codes "y" ∷ []) ∷ [])
    ≡ asks_for all_of_input ∷ asks_for (record all_of_input { paths = codes "x" ∷ [] })
    ∷ asks_for (record all_of_input
    { paths = codes "y" ∷ codes "-" ∷ codes "x" ∷ codes "y" ∷ [] }) ∷ []
unfolding clap_on_literals kind_asked
select_of_files = refl

-- they keep their order, wherever each stands; any text may be one, which the command reads
select_with_conditions : map asked_with
    ((codes "--where" ∷ codes "Version >= 1" ∷ [])
    ∷ (codes "--where=b" ∷ codes "x" ∷ codes "--where" ∷ codes "a" ∷ codes "--where="
    ∷ codes "--where=b" ∷ []) ∷ [])
    ≡ asks_for (record all_of_input { conditions = codes "Version >= 1" ∷ [] })
    ∷ asks_for (record all_of_input {
      conditions = codes "b" ∷ codes "a" ∷ [] ∷ codes "b" ∷ [];
      paths = codes "x" ∷ [];
    }) ∷ []
unfolding clap_on_literals kind_asked
select_with_conditions = refl

select_with_flags : map asked_with
    ((codes "--not" ∷ []) ∷ (codes "--accepted" ∷ []) ∷ (codes "--count" ∷ [])
    ∷ (codes "--count" ∷ codes "--accepted" ∷ codes "--not" ∷ codes "--where=a" ∷ []) ∷ [])
    ≡ asks_for (record all_of_input { picks = Others })
    ∷ asks_for (record all_of_input { on_refusal = Continue })
    ∷ asks_for (record all_of_input { count = true })
    ∷ asks_for (record all_of_input {
      conditions = codes "a" ∷ [];
      picks = Others;
      on_refusal = Continue;
      count = true;
    }) ∷ []
unfolding clap_on_literals kind_asked
select_with_flags = refl

select_of_kinds : map (λ kind. asked_with (codes "-k" ∷ kind ∷ []))
    (codes "packages" ∷ codes "binary" ∷ codes "sources" ∷ codes "source" ∷ codes "status"
    ∷ codes "any" ∷ codes "foo" ∷ [])
    ≡ asks_for all_of_input ∷ asks_for (record all_of_input { kind = Binary })
    ∷ asks_for (record all_of_input { kind = Sources })
    ∷ asks_for (record all_of_input { kind = Source })
    ∷ asks_for (record all_of_input { kind = Status })
    ∷ asks_for (record all_of_input { kind = Any }) ∷ Some unknown_kind ∷ []
unfolding clap_on_literals kind_asked
select_of_kinds = refl

-- in the order given; any text but the empty one is a name, also one that was there
select_of_fields : map asked_with
    ((codes "-f" ∷ codes "b,a,b" ∷ []) ∷ (codes "-fa" ∷ []) ∷ (codes "--fields= " ∷ []) ∷ [])
    ≡ asks_for (record all_of_input { fields = codes "b" ∷ codes "a" ∷ codes "b" ∷ [] })
    ∷ asks_for (record all_of_input { fields = codes "a" ∷ [] })
    ∷ asks_for (record all_of_input { fields = codes " " ∷ [] }) ∷ []
unfolding clap_on_literals kind_asked
select_of_fields = refl

select_in_forms : map asked_with
    ((codes "--format" ∷ codes "control" ∷ []) ∷ (codes "--format=jsonl" ∷ [])
    ∷ (codes "--format=table" ∷ codes "-fa" ∷ [])
    ∷ (codes "--strict" ∷ codes "-fa" ∷ codes "--format=table" ∷ []) ∷ [])
    ≡ asks_for all_of_input ∷ asks_for (record all_of_input { form = Jsonl })
    ∷ asks_for (record all_of_input { fields = codes "a" ∷ []; form = Table })
    ∷ asks_for (record all_of_input { fields = codes "a" ∷ []; form = Table; strict = true }) ∷ []
unfolding clap_on_literals kind_asked
select_in_forms = refl

words_for_a_form : map form_asked
    (None ∷ Some (codes "control") ∷ Some (codes "table") ∷ Some (codes "jsonl")
    ∷ Some (codes "json") ∷ Some (codes "Table") ∷ Some [] ∷ [])
    ≡ Some Control ∷ Some Control ∷ Some Table ∷ Some Jsonl ∷ None ∷ None ∷ None ∷ []
words_for_a_form = refl

-- ---- mistakes

other_formats : map asked_with ((codes "--format=json" ∷ []) ∷ (codes "--format=" ∷ []) ∷ [])
    ≡ Some other_format ∷ Some other_format ∷ []
unfolding clap_on_literals kind_asked
other_formats = refl

counts_with_output : map asked_with
    ((codes "--count" ∷ codes "-fa" ∷ []) ∷ (codes "--count" ∷ codes "--format=control" ∷ []) ∷ [])
    ≡ Some count_alone ∷ Some count_alone ∷ []
unfolding clap_on_literals kind_asked
counts_with_output = refl

table_without_fields : asked_with (codes "--format=table" ∷ []) ≡ Some table_of_fields
unfolding clap_on_literals kind_asked
table_without_fields = refl

jsonl_with_fields : asked_with (codes "-fa" ∷ codes "--format=jsonl" ∷ []) ≡ Some fields_of_jsonl
unfolding clap_on_literals kind_asked
jsonl_with_fields = refl

strict_without_table : map asked_with
    ((codes "--strict" ∷ []) ∷ (codes "--strict" ∷ codes "-fa" ∷ codes "--format=control" ∷ [])
    ∷ (codes "--strict" ∷ codes "--count" ∷ []) ∷ [])
    ≡ Some strict_of_table ∷ Some strict_of_table ∷ Some strict_of_table ∷ []
unfolding clap_on_literals kind_asked
strict_without_table = refl

empty_names : map asked_with
    ((codes "--fields=" ∷ []) ∷ (codes "-f" ∷ codes "," ∷ []) ∷ (codes "-fa," ∷ [])
    ∷ (codes "-f,a" ∷ []) ∷ (codes "-fa,,b" ∷ []) ∷ [])
    ≡ Some no_field_name ∷ Some no_field_name ∷ Some no_field_name ∷ Some no_field_name
    ∷ Some no_field_name ∷ []
unfolding clap_on_literals kind_asked
empty_names = refl

standard_input_for_two_files : map asked_with
    ((codes "-" ∷ codes "-" ∷ []) ∷ (codes "-" ∷ codes "x" ∷ codes "-" ∷ []) ∷ [])
    ≡ Some standard_input_twice ∷ Some standard_input_twice ∷ []
unfolding clap_on_literals kind_asked
standard_input_for_two_files = refl

-- which mistake is named of several
first_mistakes : map asked_with
    ((codes "-kfoo" ∷ codes "--count" ∷ codes "-f," ∷ [])
    ∷ (codes "--count" ∷ codes "--format=x" ∷ codes "--strict" ∷ [])
    ∷ (codes "--format=x" ∷ codes "--strict" ∷ codes "-f," ∷ [])
    ∷ (codes "--format=table" ∷ codes "-" ∷ codes "-" ∷ [])
    ∷ (codes "--format=jsonl" ∷ codes "--strict" ∷ codes "-f," ∷ [])
    ∷ (codes "--strict" ∷ codes "-f," ∷ codes "-" ∷ codes "-" ∷ [])
    ∷ (codes "-f," ∷ codes "-" ∷ codes "-" ∷ []) ∷ [])
    ≡ Some unknown_kind ∷ Some count_alone ∷ Some other_format ∷ Some table_of_fields
    ∷ Some fields_of_jsonl ∷ Some strict_of_table ∷ Some no_field_name ∷ []
unfolding clap_on_literals kind_asked
first_mistakes = refl

-- ---- words that `clap` refuses

given_twice : map (λ word. fault_of debctl_app (select_line (word ∷ word ∷ [])))
    (codes "-kany" ∷ codes "--not" ∷ codes "--accepted" ∷ codes "-fa" ∷ codes "--format=table"
    ∷ codes "--strict" ∷ codes "--count" ∷ [])
    ≡ (kind.ArgumentConflict ∷ []) ∷ (kind.ArgumentConflict ∷ []) ∷ (kind.ArgumentConflict ∷ [])
    ∷ (kind.ArgumentConflict ∷ []) ∷ (kind.ArgumentConflict ∷ []) ∷ (kind.ArgumentConflict ∷ [])
    ∷ (kind.ArgumentConflict ∷ []) ∷ []
unfolding clap_on_literals
given_twice = refl

unknown_options : map (λ word. fault_of debctl_app (select_line (word ∷ [])))
    (codes "--all" ∷ codes "--spelled" ∷ codes "-w" ∷ codes "--help" ∷ [])
    ≡ (kind.UnknownArgument ∷ []) ∷ (kind.UnknownArgument ∷ []) ∷ (kind.UnknownArgument ∷ [])
    ∷ (kind.DisplayHelp ∷ []) ∷ []
unfolding clap_on_literals
unknown_options = refl
