-- Demand 2, proved. Assumes nothing.
use Rattle.image.proofs.CallLaws.{length-only}
use Rattle.demands.specs.Demand2.{Demand2}
use Rattle.demands.proofs.ImageRanges.{in_cells, in_image, ranges-of}
use Rattle.demands.proofs.Theorems.{accepted-exactly, check-accepted, check-holds, count-accepted, reach-accepted, reading-accepted, reads-back}
use Rattle.demands.proofs.Written.{freeze-is, freeze-only, length-is, write-is, write-only}

pub demand-2 : Demand2
demand-2 =
    record {
      trees = ranges-of;
      images = in_image;
      stores = in_cells;
      accepted-when = accepted-exactly;
      read_back = reads-back;
      count-sum = count-accepted;
      reading-sum = reading-accepted;
      reach-sum = reach-accepted;
      check-sums = check-accepted;
      check-only = check-holds;
      lengths = length-is;
      no-others = length-only;
      writes = write-is;
      only-these = write-only;
      freezes = freeze-is;
      only-sound = freeze-only;
    }
