mod Core
mod Keeping
mod Naming
mod Quietly
mod Taking
