use Rattle.std.proofs.Common.{is_some, ap, ◌∙◌}
use Rattle.json.specs.Find as found
use Rattle.json.specs.Value.{value_view}
use Rattle.serde_json.specs.Find.{get}
use Rattle.acd_codec.specs.Members.{member_name}
use Rattle.acd_codec.specs.Documents.{data_of}
use Rattle.acd_codec.proofs.Documents.{found_there}
use Rattle.acd_codec.proofs.document.Document.has.Goals as goal

pub returns : goal.returns
returns c =
    let j = value_view c.self.inside.value in
    let m = member_name c.args.member in
    let d = data_of c.self.inside.text.now in
    c.is_some.ensures
    ∙ found_there m j d c.get.result c.self.invariant (c.get.ensures ∙ ap (λ n. found.get n j) c.name.ensures)
    ∙ ap (λ t. is_some (get m (data_of t))) c.self.view_is
