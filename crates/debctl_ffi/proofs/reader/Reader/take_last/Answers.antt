use Rattle.std.proofs.Common.{◌∙◌, ◌++◌, [], Some, ap, refl, subst, sym}
use Rattle.deb_control.specs.CheckedStates.{checked_state, doc_read}
use Rattle.debctl_ffi.specs.Feeds.{Reading, ReadsToEnd, RefusesOn}
use Rattle.debctl_ffi.proofs.AlikeTexts.{refuses-alike, to_end-alike}
use Rattle.debctl_ffi.proofs.Readings.{ok-then, other_of, refused-then, starts-reading}
use Rattle.debctl_ffi.proofs.reader.Reader.take_last.Goals as goal

pub returns-clause-ok : goal.returns-clause-ok
returns-clause-ok c = λ doc fed given is shows.
    let self = c.args.self.now in
    let piece = c.args.text.now in
    let other = other_of doc fed given self is in
    let left = c.new.ensures.left ∙ ap (λ kept. Some (kept ++ piece)) c.held.ensures in
    let start = subst (λ l. Reading (doc_read self.checked) (other ++ piece) given [] (checked_state self.checked) l self.tables self.count) (sym left) (starts-reading doc fed piece given self is shows) in
    ok-then c.read_all.result _ _ (λ to_end. record {
      reads = to_end-alike doc fed other is.alike piece given c.read_all.new.tables c.read_all.new.count
          (subst (λ d. ReadsToEnd d (other ++ piece) given c.read_all.new.tables c.read_all.new.count) is.is_doc to_end);
      ended = refl;
    }) (c.read_all.ensures.reads (other ++ piece) given start)

pub returns-clause-refused : goal.returns-clause-refused
returns-clause-refused c = λ doc fed given is shows.
    let self = c.args.self.now in
    let piece = c.args.text.now in
    let other = other_of doc fed given self is in
    let left = c.new.ensures.left ∙ ap (λ kept. Some (kept ++ piece)) c.held.ensures in
    let start = subst (λ l. Reading (doc_read self.checked) (other ++ piece) given [] (checked_state self.checked) l self.tables self.count) (sym left) (starts-reading doc fed piece given self is shows) in
    refused-then c.read_all.result _ _
    (λ refusal refuses. refuses-alike doc fed other is.alike piece given refusal c.read_all.new.tables (subst (λ d. RefusesOn d (other ++ piece) given refusal c.read_all.new.tables) is.is_doc refuses))
    (c.read_all.ensures.refused (other ++ piece) given start)
