-- Equal versions mean the same, and so feed a hasher alike. The law of `Hash` cites this.
use Rattle.std.proofs.Common.{◌≡◌, ap, IsTrue}
use Rattle.std.specs.Cmp.{Equal-is}
use Rattle.std.specs.Ordering.{eq_by_cmp}
use Rattle.deb_version.specs.Grammar.{Components, meaning_of_components}
use Rattle.deb_version.specs.Hashes.{version_writes}
use Rattle.deb_version.specs.Order.{version_cmp}
use Rattle.deb_version.specs.OrderLemmas.{version_same, has_texts}

pub equal_feed_alike : (c d : Components)
    → IsTrue (eq_by_cmp version_cmp (meaning_of_components c) (meaning_of_components d))
    → version_writes (meaning_of_components c) ≡ version_writes (meaning_of_components d)
equal_feed_alike c d equal =
    ap version_writes ((version_same (meaning_of_components c) (meaning_of_components d)
    (has_texts c) (has_texts d)).0 ((Equal-is
    (version_cmp (meaning_of_components c) (meaning_of_components d))).0 equal))
