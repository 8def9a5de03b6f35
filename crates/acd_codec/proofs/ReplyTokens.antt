-- The texts of replies, from the tokens that were written.
use Rattle.std.proofs.Common.{◌≡◌, ℕ, List, [], refl, ◌∙◌}
use Rattle.json.specs.Print.{print}
use Rattle.json.specs.Tree.{json_tokens}
use Rattle.json.specs.Written.{Written}
use Rattle.serde_json.specs.Written.{outline}
use Rattle.acd_terms.specs.declared.answer.Outcome.{Outcome}
use Rattle.acd_codec.specs.declared.replies.Rejected.{Rejected}
use Rattle.acd_codec.specs.ReplyTexts.{error_data, reply_data, reply_text, rejected_code, rejected_name, rejected_text}
use Rattle.acd_codec.specs.Tokens.{Added}
use Rattle.acd_codec.proofs.TokensInTurn.{printed}

pub reply_printed : (q : List ℕ) (i : ℕ) (o : Outcome) (start out : Written) → start.tokens ≡ [] → Added start out (json_tokens (outline (reply_data q i o))) → print out.tokens ≡ reply_text q i o
unfolding reply_text
reply_printed q i o start out empty added = printed (reply_data q i o) start out empty added

pub rejected_printed : (q : List ℕ) (i : ℕ) (r : Rejected) (code : ℕ) (name : List ℕ) → code ≡ rejected_code r → name ≡ rejected_name r
    → (start out : Written) → start.tokens ≡ [] → Added start out (json_tokens (outline (error_data code name q i))) → print out.tokens ≡ rejected_text q i r
unfolding rejected_text
rejected_printed q i r code name code_is name_is start out empty added = printed (error_data code name q i) start out empty added ∙ rw (code_is, name_is) refl
