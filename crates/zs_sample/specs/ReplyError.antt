-- What an error of a reply prints, and what it is once what it lent has been changed.
use Rattle.std.specs.Prelude.{ℕ, List, ◌++◌, length, codes, encode_utf8_all}
use Rattle.std.specs.Fmt.{decimal}
use Rattle.zs_bytes.specs.Payload.{bytes_of}
use Rattle.std.specs.Borrow.{Lends, MutBor, Fml}
use Rattle.zs_bytes.specs.contracts.payload.ZBytes.{the_row as bytes_row}
use Rattle.zs_sample.specs.ErrorFields.{ErrorFields}
use Rattle.zs_sample.specs.contracts.reply_error.ReplyError.{the_row}

-- the error ends with the payload that was last written through r
abbrev pub LendsPayload : MutBor ErrorFields → MutBor (List (List ℕ)) → Fml
LendsPayload error r = Lends the_row bytes_row error r (λ payload. record error.now { payload = payload })

-- what an error prints: how many bytes it has, and its encoding
abbrev pub error_text : ErrorFields → List ℕ
error_text error =
    codes "query returned an error with a "
    ++ (decimal (length (bytes_of error.payload)) ++ (codes "-byte payload and encoding " ++ encode_utf8_all error.encoding))
