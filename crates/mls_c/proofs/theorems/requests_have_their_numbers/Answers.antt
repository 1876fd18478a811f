use Rattle.mls_c.proofs.ReadBack.{request_read, request_apart}
use Rattle.mls_c.proofs.theorems.requests_have_their_numbers.Goals as goal

pub returns : goal.returns
returns c = record { read = request_read; apart = request_apart }
