-- What a list of calls does to the bus beneath.
use Rattle.std.proofs.Common.{◌≡◌, List, [], sym, ap, ◌∙◌}
use Rattle.bus.specs.Answers.{Answers, after}
use Rattle.bus.specs.Calls.{Call, answered_by, sent_by}
use Rattle.layer.specs.Kinds.{Kind}
use Rattle.pile.specs.Piles.{Bus, Performed, lifted, lowered}
use Rattle.pile.proofs.Parity.{lifted-after, unlifted}

-- m and n are a pile before and after, u and v the bus beneath it
pub beneath_performed : (ks : List Kind) {calls results : List Call} {m n : Bus} (u v : Bus) → m.answers ≡ lifted ks u.answers → n.answers ≡ lifted ks v.answers → m.idle ≡ u.idle → n.idle ≡ v.idle → Performed [] calls results m n → Performed ks calls results u v
beneath_performed ks {calls} {results} {m} {n} u v before afterwards idle-before idle-afterwards p =
    record {
      received = p.received ∙ ap (λ (a : Answers). answered_by calls (a (sent_by calls))) before;
      left =
          unlifted ks v.answers (after u.answers (lowered ks (sent_by calls)))
          (sym afterwards ∙ p.left ∙ ap (λ (a : Answers). after a (sent_by calls)) before ∙ lifted-after ks u.answers (sent_by calls));
      rests = λ cs e. sym idle-afterwards ∙ p.rests cs e;
      still = λ e. sym idle-afterwards ∙ p.still e ∙ idle-before;
    }
