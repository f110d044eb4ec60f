use Rattle.std.proofs.Common.{sym, ◌∙◌, ap}
use Rattle.zs_sample.specs.Encoding.{name_chars}
use Rattle.zs_sample.proofs.Names.{zenoh_bytes_chars, zenoh_string_chars, text_plain_chars, application_json_chars}
use Rattle.zs_sample.proofs.encoding.Encoding.as_str.Goals as goal

pub returns-in-ZenohBytes-clause-characters : goal.returns-in-ZenohBytes-clause-characters
returns-in-ZenohBytes-clause-characters c =
    zenoh_bytes_chars ∙ (sym (ap name_chars c.in-ZenohBytes.is) ∙ c.self.view_is)

pub returns-in-ZenohString-clause-characters : goal.returns-in-ZenohString-clause-characters
returns-in-ZenohString-clause-characters c =
    zenoh_string_chars ∙ (sym (ap name_chars c.in-ZenohString.is) ∙ c.self.view_is)

pub returns-in-TextPlain-clause-characters : goal.returns-in-TextPlain-clause-characters
returns-in-TextPlain-clause-characters c =
    text_plain_chars ∙ (sym (ap name_chars c.in-TextPlain.is) ∙ c.self.view_is)

pub returns-in-ApplicationJson-clause-characters : goal.returns-in-ApplicationJson-clause-characters
returns-in-ApplicationJson-clause-characters c =
    application_json_chars ∙ (sym (ap name_chars c.in-ApplicationJson.is) ∙ c.self.view_is)
