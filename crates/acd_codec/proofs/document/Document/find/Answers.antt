use Rattle.std.proofs.Common.{option_and_then, sym, ap, ◌∙◌}
use Rattle.json.specs.Find as found
use Rattle.json.specs.Value.{value_view}
use Rattle.serde_json.specs.Find.{get}
use Rattle.serde_json.specs.Read.{of_json}
use Rattle.acd_codec.specs.Members.{member_name}
use Rattle.acd_codec.specs.Documents.{data_of}
use Rattle.acd_codec.proofs.Documents.{get_of, mapped_then}
use Rattle.acd_codec.proofs.document.Document.find.Goals as goal

pub returns : goal.returns
returns c =
    let j = value_view c.self.inside.value in
    let m = member_name c.args.member in
    let d = data_of c.self.inside.text.now in
    sym (mapped_then c.get.result (λ v. value_view v.now) of_json)
    ∙ ap (option_and_then of_json) (c.get.ensures ∙ ap (λ n. found.get n j) c.name.ensures)
    ∙ sym (get_of m j d c.self.invariant)
    ∙ ap (λ t. get m (data_of t)) c.self.view_is
