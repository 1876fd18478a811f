-- What other crates may know of tests of what could be got.

-- a test by what is known beforehand, and that it is right; two tests agree
pub use Rattle.mls_could.proofs.Tested.{is_could, decides, same_test}
